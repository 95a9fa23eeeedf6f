-- Taking a block back: the rows after it and the rows that it spent give the rows before it (docs/RULES.md, "Cells").
use Rattle.std.specs.Prelude.{List, [], ◌∷◌, ◌++◌, Option, Some, None, is_some, if◌then◌else◌}
use Rattle.std.specs.List.{list_any}
use Rattle.chain_defs.specs.Schema.{OutPoint}
use Rattle.chain_defs.specs.Events.{Event, Makes, Spends, same_out_point, out_point_of}
use Rattle.chain_defs.specs.Row.{Row}
use Rattle.chain_defs.specs.CellLaws.{makes}

-- ---- The rows that events spend

-- the rows without that of an out-point
abbrev pub without : OutPoint → (OutPoint → Option Row) → OutPoint → Option Row
without gone rows o = if same_out_point gone o then None else rows o

-- a row with its out-point, where it is there
abbrev pub row_at : OutPoint → Option Row → List (OutPoint × Row)
row_at o None = []
row_at o (Some row) = (o, row) ∷ []

-- the row that an event spends
abbrev pub row_spent : Event → (OutPoint → Option Row) → List (OutPoint × Row)
row_spent (Makes o cell) rows = []
row_spent (Spends o) rows = row_at o (rows o)

-- Of the rows that are there before some events, those that the events spend, in the order of spending. An event that names an out-point leaves
-- none of these rows there: what is spent later was made by an event.
unfoldable pub spent_of : List Event → (OutPoint → Option Row) → List (OutPoint × Row)
spent_of [] rows = []
spent_of (event ∷ later) rows = row_spent event rows ++ spent_of later (without (out_point_of event) rows)

-- ---- Rows put back

-- the rows without those of the out-points that events make
abbrev pub without_made : List Event → (OutPoint → Option Row) → OutPoint → Option Row
without_made events rows o = if list_any (makes o) events then None else rows o

-- the rows with one put there
abbrev pub with_row : OutPoint × Row → (OutPoint → Option Row) → OutPoint → Option Row
with_row one rows o = if same_out_point one.0 o then Some one.1 else rows o

-- the rows with others put there, one after the other
abbrev pub with_rows : List (OutPoint × Row) → (OutPoint → Option Row) → OutPoint → Option Row
with_rows [] rows = rows
with_rows (one ∷ later) rows = with_rows later (with_row one rows)

-- The rows after events are taken back: those of the out-points that they make are dropped, and then the rows that they spent are put back.
unfoldable pub undone : List Event → List (OutPoint × Row) → (OutPoint → Option Row) → OutPoint → Option Row
undone events spent rows = with_rows spent (without_made events rows)

-- of rows that are put there one after the other, the out-point of the first that is live by then
abbrev pub first_live : List (OutPoint × Row) → (OutPoint → Option Row) → Option OutPoint
first_live [] rows = None
first_live (one ∷ later) rows = if is_some (rows one.0) then Some one.0 else first_live later (with_row one rows)

-- What keeps events from being taken back: the out-point of the first row to be put back that is live by then.
unfoldable pub first_clash : List Event → List (OutPoint × Row) → (OutPoint → Option Row) → Option OutPoint
first_clash events spent rows = first_live spent (without_made events rows)
