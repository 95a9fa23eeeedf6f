use Rattle.std.proofs.Common.{◌<◌, ◌≤◌, ◌^◌, sym, subst}
use Rattle.gen_defs.specs.Start.{coin_capacity}
use Rattle.gen_defs.proofs.FieldLemmas.{issued-bound, occupied-fits}
use Rattle.chain_gen.specs.declared.heights.After.{After}
use Rattle.chain_gen.proofs.heights.reward_paid.Goals as goal

pub reward-requires-clause-issued : goal.reward-requires-clause-issued
reward-requires-clause-issued c = subst (λ (after : After). coin_capacity ≤ after.field.issued) (sym c.after_at.ensures) (issued-bound _)

pub reward-requires-clause-occupied : goal.reward-requires-clause-occupied
reward-requires-clause-occupied c = subst (λ (after : After). after.field.occupied < 2 ^ 64) (sym c.after_at.ensures) (occupied-fits _)
