-- How many tablets there may be, and the slots of the events.
use Rattle.std.specs.Prelude.{ℕ, ◌+◌, ◌-◌, ◌*◌, Bool, ◌&&◌, leb}
use Rattle.model.specs.declared.Tablet.{Tablet}
use Rattle.model.specs.declared.EventNumber.{EventNumber}

-- rule 1
abbrev pub tablets_fit : ℕ → Bool
tablets_fit n = leb 1 n && leb n 8

-- rule 8: the slot of event k of the tablet in column j
unfoldable pub slot : ℕ → ℕ → ℕ
slot j k = j * 254 + (k - 1)

-- rule 3: the same of the counts that functions pass on, each of its own type
abbrev pub column : Tablet → ℕ
column i = i.0 - 1

abbrev pub slot_of : Tablet → EventNumber → ℕ
slot_of i k = slot (column i) k.0
