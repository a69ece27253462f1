-- Cells and shape determine a memory and an image: a byte that has an address comes from its cell, any other from the cells left out.
use Rattle.std.proofs.Common.{◌≡◌, ℕ, ◌+◌, ◌<◌, ◌≤◌, List, length, get_or, sym, refl, ap, ◌∙◌, ⊎_elim, arith}
use Rattle.std.proofs.lemmas.List.{ext_get_or}
use Rattle.std.proofs.lemmas.Bool.{cases_lt}
use Rattle.std.proofs.lemmas.Bool.Decides.{nat_tests}
use Rattle.bus.specs.declared.cell.Cell.{Cell}
use Rattle.bus.specs.declared.cell.Cell.TheVariants.{Open, Fixed}
use Rattle.bus.specs.Address.{space}
use Rattle.bus.specs.Cell.{byte_of}
use Rattle.bus.specs.Contract.{Cells}
use Rattle.bus.specs.Extent.{stretch, left_out}
use Rattle.storage.specs.Memory.{MemoryDetermined}
use Rattle.storage.specs.Image.{ImageDetermined}

-- a cell for each byte, which shows the byte
abbrev pub Shows : (ℕ → Cell) → Type 0
Shows cell = (b : ℕ) → byte_of (cell b) ≡ b

abbrev pub over : (ℕ → Cell) → List ℕ → ℕ → Cell
over cell bytes i = cell (get_or bytes i 0)

pub shown_at : (cell : ℕ → Cell) → Shows cell → (tag base : ℕ) (xs : List ℕ) (i : ℕ) → i < length xs → base + i < space → byte_of (stretch tag base (length xs) (over cell xs) (base + i)) ≡ get_or xs i 0
shown_at cell shows tag base xs i h r = let e = shows (get_or xs i 0) in grind (arith, nat_tests)

hidden_at : (cell : ℕ → Cell) → Shows cell → (base : ℕ) (xs : List ℕ) (i : ℕ) → space ≤ base + i → byte_of (left_out base (over cell xs) i) ≡ get_or xs i 0
hidden_at cell shows base xs i r = let e = shows (get_or xs i 0) in grind (arith, nat_tests)

same_bytes : (f g : ℕ → Cell) → Shows f → Shows g → (t u b : ℕ) (xs ys : List ℕ) → length xs ≡ length ys → stretch t b (length xs) (over f xs) ≡ stretch u b (length ys) (over g ys) → left_out b (over f xs) ≡ left_out b (over g ys) → xs ≡ ys
same_bytes f g sf sg t u b xs ys el shown hidden =
    ext_get_or 0 xs ys el (λ i h.
    ⊎_elim
    (λ r. sym (shown_at f sf t b xs i h r) ∙ ap (λ (m : Cells). byte_of (m (b + i))) shown ∙ shown_at g sg u b ys i (omega arith) r)
    (λ r. sym (hidden_at f sf b xs i r) ∙ ap (λ (m : Cells). byte_of (m i)) hidden ∙ hidden_at g sg b ys i r)
    (cases_lt (b + i) space))

pub memory_determined : MemoryDetermined
memory_determined m other shown kept =
    let et : other.tag ≡ m.tag = cc in
    let eb : other.base ≡ m.base = cc in
    let en : other.bytes.ghost_name ≡ m.bytes.ghost_name = cc in
    let el : length other.bytes.now ≡ length m.bytes.now = cc in
    let xs = other.bytes.now in
    let hidden : left_out other.base (over Open xs) ≡ left_out m.base (over Open m.bytes.now) = cc in
    (et, eb, en, same_bytes Open Open (λ _. refl) (λ _. refl) other.tag m.tag m.base xs m.bytes.now el (rw eb at shown) (rw eb at hidden))

pub image_determined : ImageDetermined
image_determined m other shown kept =
    let et : other.tag ≡ m.tag = cc in
    let eb : other.base ≡ m.base = cc in
    let el : length other.bytes.now ≡ length m.bytes.now = cc in
    let xs = other.bytes.now in
    let fixed : ℕ → ℕ → Cell = λ t b. Fixed b t in
    let hidden : left_out other.base (over (fixed other.tag) xs) ≡ left_out m.base (over (fixed m.tag) m.bytes.now) = cc in
    (et, eb, same_bytes (fixed other.tag) (fixed m.tag) (λ _. refl) (λ _. refl) other.tag m.tag m.base xs m.bytes.now el (rw eb at shown) (rw eb at hidden))
