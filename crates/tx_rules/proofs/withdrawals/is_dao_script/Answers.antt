use Rattle.std.proofs.Common.{◌≡◌, ℕ, List, Option, Some, sym, ap, ◌∙◌}
use Rattle.std.specs.Prelude.{◌==◌, ◌&&◌}
use Rattle.std.specs.Str.{bytes_eq}
use Rattle.chain_defs.specs.Schema.{Script}
use Rattle.chain_defs.specs.Specification.{Specification}
use Rattle.rule_defs.specs.Withdrawals.{is_dao_script}
use Rattle.tx_rules.proofs.withdrawals.is_dao_script.Goals as goal

of-parts : (spec : Specification) (found : Option Script) (s : Script) (hash dao : List ℕ) → found ≡ Some s → hash ≡ s.code_hash → dao ≡ spec.dao_code_hash
    → (bytes_eq hash dao && (s.hash_type == 1)) ≡ is_dao_script spec found
of-parts spec found s hash dao is hash_is dao_is =
    (λ t. bytes_eq (hash_is t) (dao_is t) && (s.hash_type == 1)) ∙ sym (ap (is_dao_script spec) is)

pub returns-in-None : goal.returns-in-None
returns-in-None c = sym (ap (is_dao_script c.args.spec.now) c.in-None.is)

pub returns-then-eq : goal.returns-then-eq
returns-then-eq c =
    ap (λ (n : ℕ). n == 1) c.hash_type.ensures
    ∙ (λ t. c.if-eq.ensures t && (c.in-Some.script.hash_type == 1))
    ∙ of-parts c.args.spec.now c.args.type_script.now c.in-Some.script c.code_hash.result.now c.as_slice.result.now c.in-Some.is c.code_hash.ensures.value
    (c.as_slice.ensures ∙ ap (λ (spec : Specification). spec.dao_code_hash) c.spec.view_is)

pub returns-else-eq : goal.returns-else-eq
returns-else-eq c =
    c.if-eq.false
    ∙ (λ t. c.if-eq.ensures t && (c.in-Some.script.hash_type == 1))
    ∙ of-parts c.args.spec.now c.args.type_script.now c.in-Some.script c.code_hash.result.now c.as_slice.result.now c.in-Some.is c.code_hash.ensures.value
    (c.as_slice.ensures ∙ ap (λ (spec : Specification). spec.dao_code_hash) c.spec.view_is)
