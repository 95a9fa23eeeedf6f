use Rattle.std.proofs.Common.{◌≡◌, ℕ, ◌+◌, ◌-◌, List, [], ◌∷◌, ◌++◌, map, Vec, Global, ap, sym, subst, ◌∙◌, arith}
use Rattle.std.proofs.lemmas.List.{map-append}
use Rattle.chain_defs.specs.Shape.{encoded}
use Rattle.chain_defs.specs.Schema as schema
use Rattle.gen_defs.specs.Chain.{blocks_made}
use Rattle.chain_gen.specs.Walk.{IsAt}
use Rattle.chain_gen.proofs.Contents.{no_blocks, one_block_more}
use Rattle.chain_gen.proofs.growth.blocks_after.Goals as goal

abbrev items_of : Vec ℕ Global → List ℕ
items_of bytes = bytes.items

pub growing-init : goal.growing-init
growing-init c = record {
  at = c.requires.at;
  blocks = ap (map items_of) c.in_ok-blocks.ensures.items ∙ ap (map (encoded schema.block)) (sym (no_blocks c.args.seed));
}

pub grow-requires-clause-at : goal.grow-requires-clause-at
grow-requires-clause-at c =
    let same : c.growing.i ≡ c.growing.i + 1 - 1 = omega arith in
    subst (λ (n : ℕ). IsAt c.growing.walk.standing c.growing.walk.after.items c.args.seed n) same c.growing.invariant.at

pub growing-preserved : goal.growing-preserved
growing-preserved c = record {
  at = c.in_ok-grow.ensures.at;
  blocks = ap (map items_of) c.in_ok-push.ensures.items
      ∙ map-append items_of c.growing.blocks.items (c.in_ok-grow.field-0 ∷ [])
      ∙ ap (λ (l : List (List ℕ)). l ++ c.in_ok-grow.field-0.items ∷ []) c.growing.invariant.blocks
      ∙ ap (λ (l : List ℕ). map (encoded schema.block) (blocks_made c.args.seed c.growing.i) ++ l ∷ []) c.in_ok-grow.ensures.block
      ∙ sym (one_block_more c.args.seed c.growing.i);
}
