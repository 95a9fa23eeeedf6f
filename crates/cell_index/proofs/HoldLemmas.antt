-- An index of rows that are listed.
use Rattle.std.proofs.Common.{◌≡◌, List, Option, None, refl}
use Rattle.chain_defs.specs.Schema.{OutPoint}
use Rattle.chain_defs.specs.Row.{Row, ListsRows}
use Rattle.chain_defs.specs.Undo.{with_rows, first_live}
use Rattle.chain_defs.proofs.ByLockLaws.{rising-apart}
use Rattle.cell_index.specs.Index.{IndexValue, Holds}
use Rattle.cell_index.proofs.FollowLemmas.{holds-same}
use Rattle.cell_index.proofs.RowLists.{none-live, rows-put}

-- none of them is live where none is
pub all-free : (rows : OutPoint → Option Row) (list : List (OutPoint × Row)) → ListsRows rows list → first_live list (λ _. None) ≡ None
all-free rows list lists = none-live list (λ _. None) (rising-apart list lists.rising) (λ o row has. refl)

pub holds-listed : (rows : OutPoint → Option Row) (list : List (OutPoint × Row)) (index : IndexValue) → ListsRows rows list → Holds (with_rows list (λ _. None)) index → Holds rows index
holds-listed rows list index lists has = holds-same (with_rows list (λ _. None)) rows index (λ o. rows-put rows list o lists.each) has
