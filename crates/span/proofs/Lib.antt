mod Lists
mod Order
