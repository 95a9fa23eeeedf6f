use Rattle.std.proofs.Common.{◌≡◌, ℕ, List, [], ◌∷◌, IfOk, ap, subst, ◌∙◌}
use Rattle.chain_defs.specs.Shape.{encoded}
use Rattle.chain_defs.specs.Schema as schema
use Rattle.chain_defs.specs.Dao.{field_bytes}
use Rattle.gen_defs.specs.Start as start
use Rattle.chain_gen.proofs.Headers.{root_of_both, genesis_header_is}
use Rattle.chain_gen.proofs.start.genesis_header.Goals as goal

pub returns : goal.returns
returns c =
    let top = root_of_both (start.genesis_transaction ∷ []) c.in_ok-root.ensures c.in_ok-root-2.ensures c.in_ok-root-3.ensures
    (ap (λ (l : List ℕ). l ∷ []) c.requires.hash_is) (ap (λ (l : List ℕ). l ∷ []) c.requires.witness_hash_is) in
    let dao = c.write.ensures.bytes ∙ ap field_bytes c.genesis_field.ensures in
    subst (λ (h : schema.Header). IfOk c.header.result (λ bytes. bytes ≡ encoded schema.header h)) (genesis_header_is _ _ top dao) c.header.ensures
