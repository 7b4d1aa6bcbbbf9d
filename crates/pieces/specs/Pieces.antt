-- The bytes of a line that is being written.
use Rattle.std.specs.Prelude.{ℕ, List, [], ◌++◌, length, drop, replicate}

-- how many bytes a piece has room for, more than the longest that is written: an event's three lines, 64 bytes. The code has
-- this number as `ROOM`; no other place has it.
abbrev pub piece_room : ℕ
piece_room = 96

-- what a clause sees of a piece: the bytes that were put so far, and what lies behind them, up to its room
pub record Bytes : Type 0 where
  pub put : List ℕ
  pub behind : List ℕ

-- nothing is put, and zeros lie behind
abbrev pub empty_piece : Bytes
empty_piece = record { put = []; behind = replicate piece_room 0 }

-- more bytes, put behind those that the piece has, over what lay there
abbrev pub grown : Bytes → List ℕ → Bytes
grown p more = record { put = p.put ++ more; behind = drop (length more) p.behind }
