use Rattle.std.proofs.Common.{◌≡◌, ◌++◌, ◌∷◌, [], ℕ, List, Vec, Global, map, ap, ◌∙◌, subst, sym, rules}
use Rattle.std.proofs.lemmas.List.{map_push}
use Rattle.chain_defs.specs.Shape.{IsEncoding}
use Rattle.chain_defs.specs.Schema as schema
use Rattle.chain_defs.proofs.RowLaws.{block-check}
use Rattle.chain_tree.specs.Told.{Stored}
use Rattle.store_vectors.proofs.logs.ShownVisitor.visit.Goals as goal

-- the block and the ext of a pair of bytes
abbrev stored_in : Vec ℕ Global × Vec ℕ Global → Stored
stored_in pair = record { block = schema.block.decoding pair.0.items; ext = pair.1.items }

pub returns : goal.returns
returns c =
    let same : c.in_ok-bytes.bytes.items ≡ c.bytes.result.now = search rules in
    let beside : c.in_ok-ext.ext.items ≡ c.args.ext.now = search rules in
    let is : IsEncoding schema.block c.in_ok-bytes.bytes.items c.args.block.now = subst (λ (l : List ℕ). IsEncoding schema.block l c.args.block.now) (sym same) c.bytes.ensures in
    let old = map stored_in c.args.self.now.blocks.items in
    ap (map stored_in) c.in_ok-push.ensures.items ∙ map_push stored_in c.args.self.now.blocks.items (c.in_ok-bytes.bytes, c.in_ok-ext.ext)
    ∙ (λ i. old ++ record { block = block-check.value c.in_ok-bytes.bytes.items c.args.block.now is i; ext = beside i } ∷ [])
