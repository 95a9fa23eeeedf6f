use Rattle.std.proofs.Common.{sym, ◌∙◌}
use Rattle.chain_defs.proofs.FirstLemmas.{first_failing-fails, first_failing-holds, first_failing-none}
use Rattle.epochs.proofs.specification.Spec.read.Goals as goal

pub returns-then-not-keeps_s1-clause-broken : goal.returns-then-not-keeps_s1-clause-broken
returns-then-not-keeps_s1-clause-broken c =
    first_failing-fails 1 _ _ (sym c.keeps_s1.ensures.value ∙ c.if-not-keeps_s1.true)

pub returns-then-not-keeps_s2-clause-broken : goal.returns-then-not-keeps_s2-clause-broken
returns-then-not-keeps_s2-clause-broken c =
    first_failing-holds 1 _ _ (sym c.keeps_s1.ensures.value ∙ c.if-not-keeps_s1.false)
    ∙ first_failing-fails 2 _ _ (sym c.keeps_s2.ensures ∙ c.if-not-keeps_s2.true)

pub returns-then-not-keeps_s3-clause-broken : goal.returns-then-not-keeps_s3-clause-broken
returns-then-not-keeps_s3-clause-broken c =
    first_failing-holds 1 _ _ (sym c.keeps_s1.ensures.value ∙ c.if-not-keeps_s1.false)
    ∙ first_failing-holds 2 _ _ (sym c.keeps_s2.ensures ∙ c.if-not-keeps_s2.false)
    ∙ first_failing-fails 3 _ _ (sym c.keeps_s3.ensures ∙ c.if-not-keeps_s3.true)

pub returns-then-not-keeps_s4-clause-broken : goal.returns-then-not-keeps_s4-clause-broken
returns-then-not-keeps_s4-clause-broken c =
    first_failing-holds 1 _ _ (sym c.keeps_s1.ensures.value ∙ c.if-not-keeps_s1.false)
    ∙ first_failing-holds 2 _ _ (sym c.keeps_s2.ensures ∙ c.if-not-keeps_s2.false)
    ∙ first_failing-holds 3 _ _ (sym c.keeps_s3.ensures ∙ c.if-not-keeps_s3.false)
    ∙ first_failing-fails 4 _ _ (sym c.keeps_s4.ensures ∙ c.if-not-keeps_s4.true)

pub returns-then-not-keeps_s5-clause-broken : goal.returns-then-not-keeps_s5-clause-broken
returns-then-not-keeps_s5-clause-broken c =
    first_failing-holds 1 _ _ (sym c.keeps_s1.ensures.value ∙ c.if-not-keeps_s1.false)
    ∙ first_failing-holds 2 _ _ (sym c.keeps_s2.ensures ∙ c.if-not-keeps_s2.false)
    ∙ first_failing-holds 3 _ _ (sym c.keeps_s3.ensures ∙ c.if-not-keeps_s3.false)
    ∙ first_failing-holds 4 _ _ (sym c.keeps_s4.ensures ∙ c.if-not-keeps_s4.false)
    ∙ first_failing-fails 5 _ _ (sym c.keeps_s5.ensures ∙ c.if-not-keeps_s5.true)

pub returns-then-not-keeps_s6-clause-broken : goal.returns-then-not-keeps_s6-clause-broken
returns-then-not-keeps_s6-clause-broken c =
    first_failing-holds 1 _ _ (sym c.keeps_s1.ensures.value ∙ c.if-not-keeps_s1.false)
    ∙ first_failing-holds 2 _ _ (sym c.keeps_s2.ensures ∙ c.if-not-keeps_s2.false)
    ∙ first_failing-holds 3 _ _ (sym c.keeps_s3.ensures ∙ c.if-not-keeps_s3.false)
    ∙ first_failing-holds 4 _ _ (sym c.keeps_s4.ensures ∙ c.if-not-keeps_s4.false)
    ∙ first_failing-holds 5 _ _ (sym c.keeps_s5.ensures ∙ c.if-not-keeps_s5.false)
    ∙ first_failing-fails 6 _ _ (sym c.keeps_s6.ensures ∙ c.if-not-keeps_s6.true)

pub returns-then-not-keeps_s7-clause-broken : goal.returns-then-not-keeps_s7-clause-broken
returns-then-not-keeps_s7-clause-broken c =
    first_failing-holds 1 _ _ (sym c.keeps_s1.ensures.value ∙ c.if-not-keeps_s1.false)
    ∙ first_failing-holds 2 _ _ (sym c.keeps_s2.ensures ∙ c.if-not-keeps_s2.false)
    ∙ first_failing-holds 3 _ _ (sym c.keeps_s3.ensures ∙ c.if-not-keeps_s3.false)
    ∙ first_failing-holds 4 _ _ (sym c.keeps_s4.ensures ∙ c.if-not-keeps_s4.false)
    ∙ first_failing-holds 5 _ _ (sym c.keeps_s5.ensures ∙ c.if-not-keeps_s5.false)
    ∙ first_failing-holds 6 _ _ (sym c.keeps_s6.ensures ∙ c.if-not-keeps_s6.false)
    ∙ first_failing-fails 7 _ _ (sym c.keeps_s7.ensures ∙ c.if-not-keeps_s7.true)

pub returns-clause-sound : goal.returns-clause-sound
returns-clause-sound c =
    first_failing-holds 1 _ _ (sym c.keeps_s1.ensures.value ∙ c.if-not-keeps_s1.false)
    ∙ first_failing-holds 2 _ _ (sym c.keeps_s2.ensures ∙ c.if-not-keeps_s2.false)
    ∙ first_failing-holds 3 _ _ (sym c.keeps_s3.ensures ∙ c.if-not-keeps_s3.false)
    ∙ first_failing-holds 4 _ _ (sym c.keeps_s4.ensures ∙ c.if-not-keeps_s4.false)
    ∙ first_failing-holds 5 _ _ (sym c.keeps_s5.ensures ∙ c.if-not-keeps_s5.false)
    ∙ first_failing-holds 6 _ _ (sym c.keeps_s6.ensures ∙ c.if-not-keeps_s6.false)
    ∙ first_failing-holds 7 _ _ (sym c.keeps_s7.ensures ∙ c.if-not-keeps_s7.false)
    ∙ first_failing-none
