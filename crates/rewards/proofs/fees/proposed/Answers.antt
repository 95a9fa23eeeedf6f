use Rattle.std.proofs.Common.{ℕ, pos, Bool, sym, ◌∙◌, ap, arith, List, []}
use Rattle.std.proofs.lemmas.Option.{slice_get-get_or}
use Rattle.std.specs.List.{sum_by, filter}
use Rattle.std.specs.Str.{bytes_eq}
use Rattle.std.specs.HashMap.{get}
use Rattle.chain_defs.specs.Dao.{as_u64}
use Rattle.rule_defs.specs.Fees.{Paid, proposer_share}
use Rattle.rewards.specs.Starts.{is_started}
use Rattle.rewards.proofs.SumLemmas.{proposed-more, proposed-same, all-paid}
use Rattle.rewards.proofs.fees.proposed.Goals as goal
use Rattle.rewards.proofs.fees.proposed.Goals.{then-is_started, else-is_started}

pub fees-preserved : goal.fees-preserved
fees-preserved c paids are =
    let test : List ℕ → Bool = λ id. is_started (get bytes_eq c.args.starts.now id) c.args.height in
    let named = slice_get-get_or c.args.ids.now c.fees.i [] (omega (arith, c.fees-test.true)) in
    elim c.if-is_started.branch [
      | then-is_started w ↦ w.sum-is ∙ proposed-more c.args.ext.now c.args.ids.now paids test c.fees.i w.fee_at.result w.proposer_share.result _ _ _ are
          (omega (arith, c.fees-test.true)) named (sym c.is_started.ensures ∙ w.if-is_started.true) w.fee_at.ensures w.proposer_share.ensures.share w.proposer_share.type_inv
          (c.fees.invariant paids are) w.plus-sum.ensures
      | else-is_started w ↦ w.sum-is ∙ proposed-same c.args.ext.now c.args.ids.now paids test c.fees.i _ _ are (omega (arith, c.fees-test.true)) named
          (sym c.is_started.ensures ∙ w.if-is_started.false) (c.fees.invariant paids are)
    ]

pub returns : goal.returns
returns c paids are =
    c.fees.invariant paids are
    ∙ ap (λ (l : List Paid). as_u64 (pos (sum_by (λ (paid : Paid). proposer_share paid.fee)
    (filter (λ (paid : Paid). is_started (get bytes_eq c.args.starts.now paid.id) c.args.height) l))))
    (all-paid c.args.ext.now c.args.ids.now paids c.fees.i are (omega (arith, c.fees-test.false)))
