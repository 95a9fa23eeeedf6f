-- What is written of a snapshot is what is read of it.
use Rattle.std.proofs.Common.{◌≡◌, ℕ, ◌<◌, true, false, List, length, get_or, Option, Some, None, Ok, Err, refl, sym, ap, ◌∙◌, subst}
use Rattle.std.specs.Prelude.{Result}
use Rattle.std.specs.List.{All, Contains}
use Rattle.std.proofs.lemmas.List.{get_or_default}
use Rattle.chain_defs.specs.Schema.{OutPoint}
use Rattle.chain_defs.specs.Row.{Row, ListsRows}
use Rattle.cell_state.specs.State.{StateValue, rows}
use Rattle.chain_tree.specs.declared.entry.Entry.{Entry}
use Rattle.outside.specs.declared.disk.ReadStop.{ReadStop}
use Rattle.outside.specs.declared.disk.ReadStop.TheVariants.{DiskFault, NoMemory, Damaged}
use Rattle.disk_defs.specs.Snapshot.{Snapshot, has_open_gate, Holds}
use Rattle.disk_defs.proofs.SnapshotLaws.{bytes-tell-snapshots, opens-its-gate}
use Rattle.snapshots.specs.Rows.{IsHeld}
use Rattle.snapshots.specs.Reading.{AnswersSnapshot, IsOfTree, has_tip}
use Rattle.snapshots.specs.Writing.{IsSnapshotOf}
use Rattle.snapshots.specs.Laws.{IsReadBack, ReadsWhatIsWritten}

true-false : true ≡ false → ⊥
true-false is = cc

-- each row of a list is one of the rows that it lists
held-by : (kept : ℕ) (written : OutPoint → Option Row) (list : List (OutPoint × Row)) → ListsRows written list
    → ((o : OutPoint) (row : Row) → written o ≡ Some row → IsHeld kept (o, row)) → All (IsHeld kept) list
held-by kept written list lists within i d less = within it.0 it.1 ((lists.each it.0 it.1).0 (i, less, get_or_default list i (it.0, it.1) d less))
  where
    it : OutPoint × Row
    it = get_or list i d

-- two that list the same are the same
same-values : {X : Type 0} (one other : Option X) → ((x : X) → one ≡ Some x → other ≡ Some x) → ((x : X) → other ≡ Some x → one ≡ Some x) → one ≡ other
same-values None None there back = refl
same-values None (Some x) there back = back x refl
same-values (Some x) other there back = sym (there x refl)

same-rows : (one other : OutPoint → Option Row) (list : List (OutPoint × Row)) → ListsRows one list → ListsRows other list → (o : OutPoint) → one o ≡ other o
same-rows one other list first second o =
    same-values (one o) (other o) (λ row has. (second.each o row).0 ((first.each o row).1 has)) (λ row has. (first.each o row).0 ((second.each o row).1 has))

pub reads-what-is-written : ReadsWhatIsWritten
reads-what-is-written area entries number tip hash written bytes before after result (s, is, holds) kept within answers = by result answers
  where
    of-tree : IsOfTree entries s
    of-tree = record {
      tip = (λ t. has_tip entries (is.tip_is t) (is.hash_is t)) ∙ kept;
      rows = held-by (length entries) written s.rows is.lists within;
    }

    by : (r : Result (Option (ℕ × ℕ × StateValue)) ReadStop) → AnswersSnapshot area entries bytes before after r → IsReadBack number tip written r
    by (Ok None) closed = absurd (true-false (sym (opens-its-gate bytes s holds).gate ∙ closed.0))
    by (Ok (Some (found, place, state))) (other, read) =
        let same : other ≡ s = bytes-tell-snapshots bytes other s read.holds holds in (
          read.number_is ∙ ap (λ (x : Snapshot). x.number) same ∙ is.number_is,
          read.tip_is ∙ ap (λ (x : Snapshot). x.tip) same ∙ is.tip_is,
          same-rows (rows state) written s.rows (subst (λ (x : Snapshot). ListsRows (rows state) x.rows) same read.rows) is.lists,
        )
    by (Err DiskFault) stopped = tt
    by (Err NoMemory) stopped = tt
    by (Err (Damaged damage)) stopped = stopped.0.none s holds of-tree
