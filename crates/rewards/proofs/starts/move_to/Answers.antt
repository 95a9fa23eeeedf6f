use Rattle.std.proofs.Common.{◌≡◌, ℕ, List, cond, Some, [], get_or, sym, ap, ◌∙◌, arith}
use Rattle.std.proofs.lemmas.Grind.{common_steps}
use Rattle.std.proofs.lemmas.Option.{slice_get-get_or}
use Rattle.std.specs.Str.{bytes_eq}
use Rattle.std.specs.Cmp.Lexicographic.{same_text}
use Rattle.std.specs.HashMap.{get}
use Rattle.rewards.proofs.StartLemmas.{moved-some, moved-none}
use Rattle.rewards.proofs.starts.move_to.Goals as goal
use Rattle.rewards.proofs.starts.move_to.Goals.{in-Some, in_default}

pub ids-preserved : goal.ids-preserved
ids-preserved c id =
    let key : List ℕ = get_or c.args.ids.now c.ids.i [] in
    let there = slice_get-get_or c.args.ids.now c.ids.i [] (omega (arith, c.ids-test.true)) in
    elim c.match-get_mut.branch [
      | in-Some w ↦
          let updates : get bytes_eq c.match-get_mut.starts id ≡ cond (bytes_eq key id) (Some c.args.start) (get bytes_eq c.ids.starts id) = grind (arith, common_steps) in
          moved-some c.args.ids.now c.ids.i c.args.start _ key id _ _ _ there updates
          (λ same. ap (get bytes_eq c.ids.starts) (sym (same_text key id (sym same))) ∙ sym w.in-Some.ensures.value) (c.ids.invariant id)
      | in_default w ↦
          let same : get bytes_eq c.match-get_mut.starts id ≡ get bytes_eq c.ids.starts id = grind (arith, common_steps) in
          same ∙ moved-none c.args.ids.now c.ids.i c.args.start key id _ _ there
          (λ same. ap (get bytes_eq c.ids.starts) (sym (same_text key id (sym same))) ∙ sym w.in_default.ensures.value) (c.ids.invariant id)
    ]
