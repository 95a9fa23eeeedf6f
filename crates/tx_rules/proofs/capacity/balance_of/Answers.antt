use Rattle.std.proofs.Common.{ℕ, ◌-◌, ◌^◌, rules, refl, sym, ap, ◌∙◌, arith}
use Rattle.std.specs.Prelude.{pos, ◌-ℤ◌}
use Rattle.chain_tree.specs.Told.{blocks_of}
use Rattle.rule_defs.specs.Resolving.{inputs}
use Rattle.rule_defs.specs.Capacity.{counted_in, held_out}
use mir.Syntax.{w128}
use mir.Val.{SFits}
use Rattle.std.proofs.lemmas.Int.{to_z-of_z}
use Rattle.outside.proofs.Endings.{handed}
use Rattle.tx_rules.proofs.MoneyLemmas.{some-u64, none-u64, none-balances, more-balances, all-balances, capacities-same}
use Rattle.tx_rules.proofs.capacity.balance_of.Goals as goal

pub returns-in-Err : goal.returns-in-Err
returns-in-Err c = record {
  fits = tt;
  balance = λ stored rows site is each are named. tt;
  undamaged = λ stored rows site is each are named damage same.
      c.in-Err.ensures.undamaged stored rows site is each are named c.in-Err.damage refl;
  damage = λ damage same. c.in-Err.ensures.damage damage (handed c.in-Err.damage _ same);
}

pub returns-in-Ok-None-clause-balance : goal.returns-in-Ok-None-clause-balance
returns-in-Ok-None-clause-balance c stored rows site is each are named =
    none-balances (counted_in site c.args.tx.now) (held_out c.args.tx.now) (2 ^ 64)
    (none-u64 (counted_in site c.args.tx.now) (2 ^ 64) (sym c.in-Ok-None.field-0-is ∙ c.in-Ok-None.ensures.counted stored rows site is each are named))

pub returns-then-held-counted-clause-balance : goal.returns-then-held-counted-clause-balance
returns-then-held-counted-clause-balance c stored rows site is each are named =
    let inside = some-u64 (counted_in site c.args.tx.now) (2 ^ 64) c.in-Ok-Some.counted (sym c.in-Ok-Some.field-0-is ∙ c.in-Ok-Some.ensures.counted stored rows site is each are named) in
    let outside = some-u64 (held_out c.args.tx.now) (2 ^ 64) c.in-Some.held (sym c.in-Some.is ∙ c.held_out.ensures) in
    more-balances (counted_in site c.args.tx.now) (held_out c.args.tx.now) (2 ^ 64) (omega (arith, inside.0, outside.0, c.if-held-counted.true))

pub returns-clause-balance : goal.returns-clause-balance
returns-clause-balance c stored rows site is each are named =
    let inside = some-u64 (counted_in site c.args.tx.now) (2 ^ 64) c.in-Ok-Some.counted (sym c.in-Ok-Some.field-0-is ∙ c.in-Ok-Some.ensures.counted stored rows site is each are named) in
    let outside = some-u64 (held_out c.args.tx.now) (2 ^ 64) c.in-Some.held (sym c.in-Some.is ∙ c.held_out.ensures) in
    let fits : SFits w128 c.beyond.result = search rules in (
      all-balances (counted_in site c.args.tx.now) (held_out c.args.tx.now) (2 ^ 64) inside.1 outside.1 (omega (arith, inside.0, outside.0, c.if-held-counted.false)),
      ap (λ (n : ℕ). n - c.in-Some.held) inside.0 ∙ ap (λ (n : ℕ). counted_in site c.args.tx.now - n) outside.0,
      to_z-of_z w128 c.beyond.result fits ∙ c.beyond.ensures.difference
          ∙ ap (λ (n : ℕ). pos n -ℤ pos c.capacities.result) inside.0
          ∙ ap (λ (n : ℕ). pos (counted_in site c.args.tx.now) -ℤ pos n)
          (c.capacities.ensures.sum ∙ capacities-same (blocks_of stored) c.args.at.now.parent (inputs site c.args.tx.now) c.args.copies.now each),
    )
