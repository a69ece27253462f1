-- Where each tower has its cells. Assumes nothing.
use Rattle.std.specs.Prelude.{ℕ, ◌+◌, Bool, ◌||◌, ◌==◌}
use Rattle.dryer.specs.declared.control.Places.{Places}
use Rattle.towers.specs.declared.tower.Tower.{Tower}
use Rattle.towers.specs.declared.tower.Tower.TheVariants.{One, Two}

-- in the image: the temperature above which the valve is closed
abbrev pub limit_at : Tower → ℕ
limit_at One = 0xFF8000
limit_at Two = 0xFF8001

-- in its probe bank, one after the other: moisture, temperature, valve
abbrev pub moisture_at : Tower → ℕ
moisture_at One = 0x200
moisture_at Two = 0x300

abbrev pub temperature_at : Tower → ℕ
temperature_at t = moisture_at t + 1

abbrev pub valve_at : Tower → ℕ
valve_at t = moisture_at t + 2

abbrev pub places : Tower → Places
places t = record { moisture = moisture_at t; temperature = temperature_at t; valve = valve_at t }

-- in the memory: the moisture of each hour
abbrev pub log_at : Tower → ℕ → ℕ
log_at One hour = 0x1000 + hour
log_at Two hour = 0x1100 + hour

-- what the tower reads
abbrev pub reads : Tower → ℕ → Bool
reads t a = a == limit_at t || (a == moisture_at t || a == temperature_at t)

-- what it writes in an hour
abbrev pub writes : Tower → ℕ → ℕ → Bool
writes t hour a = a == valve_at t || a == log_at t hour

-- the tower's own cells in an hour: what it reads and what it writes
abbrev pub own : Tower → ℕ → ℕ → Bool
own t hour a = reads t a || writes t hour a
