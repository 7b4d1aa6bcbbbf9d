-- A record is told by its fields, and a store's record by the store.
use mathlib.Core.Path.{◌≡◌, ap}
use mathlib.Core.List.{List}
use Prim.Native.Nat.{ℕ}
use Rattle.model.specs.declared.Record.{Record}
use Rattle.model.specs.Store.{store_of, record_of}

pub record_unique : (r q : Record) → r.tablets ≡ q.tablets → r.events ≡ q.events → r ≡ q
record_unique r q n k = λ i. record { tablets = n i; events = k i }

pub store_record : (r q : Record) (clocks held order bytes numbers tablets : List ℕ) → store_of r clocks held order ≡ store_of q bytes numbers tablets → r ≡ q
store_record r q clocks held order bytes numbers tablets same = ap record_of same
