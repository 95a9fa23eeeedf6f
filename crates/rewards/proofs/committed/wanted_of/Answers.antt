use Rattle.std.proofs.Common.{ℕ, List, [], get_or, sym, ◌∙◌, arith}
use Rattle.std.specs.Str.{bytes_eq}
use Rattle.std.specs.HashSet.{contains}
use Rattle.std.proofs.lemmas.Option.{slice_get-get_or}
use Rattle.rewards.proofs.CommitLemmas.{wanted-more, wanted-same}
use Rattle.rewards.proofs.committed.wanted_of.Goals as goal
use Rattle.rewards.proofs.committed.wanted_of.Goals.{then-contains+in_ok-push, else-contains}

pub ids-preserved : goal.ids-preserved
ids-preserved c id =
    let key : List ℕ = get_or c.args.ids.now c.ids.i [] in
    let there = slice_get-get_or c.args.ids.now c.ids.i [] (omega (arith, c.ids-test.true)) in
    elim c.if-contains.branch [
      | then-contains+in_ok-push w ↦ rw w.wanted-is (
          wanted-more c.args.ids.now c.ids.wanted.items w.push.new.self.items (contains bytes_eq c.args.committed.now) c.ids.i key id there
          (sym c.contains.ensures ∙ w.if-contains.true) w.in_ok-push.ensures.items (c.ids.invariant id))
      | else-contains w ↦ rw w.wanted-is (
          wanted-same c.args.ids.now c.ids.wanted.items (contains bytes_eq c.args.committed.now) c.ids.i key id there
          (sym c.contains.ensures ∙ w.if-contains.false) (c.ids.invariant id))
    ]
