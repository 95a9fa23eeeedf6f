use Rattle.std.proofs.Common.{◌≡◌, ◌<◌, ◌≤◌, sym, ap, subst, ◌∙◌, inl, inr, ◌⊎◌, arith}
use Rattle.std.specs.Prelude.{IsTrue}
use Rattle.std.proofs.lemmas.Bool.{cases_lt}
use Rattle.std.proofs.lemmas.Option.{slice_get_within, same_Some}
use Rattle.chain_defs.specs.Dao.{is_rated}
use Rattle.chain_tree.specs.declared.entry.Entry.{Entry}
use Rattle.chain_tree.specs.Entries.{entry_at}
use Rattle.rule_vectors.proofs.given.are_rated.Goals as goal

pub entries-preserved : goal.entries-preserved
entries-preserved c other entry below there = by_order (cases_lt other c.entries.place)
  where
    by_order : (other < c.entries.place) ⊎ (c.entries.place ≤ other) → IsTrue (is_rated entry.dao)
    by_order (inl less) = c.entries.invariant other entry less there
    by_order (inr more) =
        let here : c.entries.place ≡ other = omega (arith, below, more) in
        let same : c.entry.result.now ≡ entry =
        same_Some c.entry.result.now entry (sym c.entry.ensures.entry ∙ ap (entry_at c.args.tree.now.entries) here ∙ there) in
        subst (λ (e : Entry). IsTrue (is_rated e.dao)) same (sym c.is_rated.ensures ∙ c.if-not-is_rated.false)

pub returns : goal.returns
returns c _ place entry there =
    let within = slice_get_within c.args.tree.now.entries place entry there in
    c.entries.invariant place entry (omega (arith, within, c.len-place-end.ensures.len, c.entries-test.false)) there
