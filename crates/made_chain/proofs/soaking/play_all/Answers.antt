use Rattle.std.proofs.Common.{◌≡◌, ℕ, ◌-◌, ◌<◌, List, Some, length, get_or, ap, subst, ◌∙◌, arith}
use Rattle.std.specs.Prelude.{slice_get}
use Rattle.made_chain.specs.declared.outcome.End.{End}
use Rattle.made_chain.specs.declared.outcome.End.TheVariants.{Whole}
use Rattle.made_chain.specs.Soak.{last_acked}
use Rattle.made_chain.proofs.SoakLemmas.{last-entry}
use Rattle.made_chain.proofs.soaking.play_all.Goals as goal

pub returns : goal.returns
returns g c = record {
  kept = λ chain only.
      let kept = c.in-Ok.ensures.kept chain only in
      let acked = c.in-Ok.played.acked.items in
      let last = c.index-last.result.now in
      let size : c.len-count.result ≡ length acked = omega (arith, c.len-count.ensures, c.in-Ok.played.acked.ok) in
      let some : 0 < length acked = omega (arith, size, c.if-count-eq0.false) in
      let is : last ≡ last_acked acked = c.index-last.ensures ∙ ap (λ (n : ℕ). get_or acked (n - 1) last) size ∙ last-entry acked last some in
      (kept.0, record { acked = acked; kept_after = kept.1; whole = omega (arith, is, c.if-last-size.false) }, kept.2);
  ended = record {
    acked = c.in-Ok.played.acked.items;
    ends = c.in-Ok.played.ends.items;
    played = c.in-Ok.ensures.played;
    whole = subst (λ (ends : List End). slice_get ends (length ends - 1) ≡ Some Whole) c.deref.ensures.value (c.last_is_whole.ensures c.if-not-last_is_whole.false);
  };
}
