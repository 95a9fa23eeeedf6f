use Rattle.std.proofs.Common.{◌≡◌, ◌++◌, ◌∷◌, [], List, Vec, Global, ℕ, map, ap, ◌∙◌, arith, rules}
use Rattle.std.specs.declared.snapshot.Snapshot.{Snapshot}
use Rattle.std.proofs.lemmas.List.{length-map, map_push}
use Rattle.node_store.proofs.KeptRecorded.{one-remembered}
use Rattle.node_store.proofs.recorded.Recorded.push.Goals as goal

abbrev bytes_of : Snapshot (Vec ℕ Global) → List ℕ
bytes_of it = it.value.items

pub returns-clause-pushed : goal.returns-clause-pushed
returns-clause-pushed c =
    let here = c.self.inside in
    let encoding : c.in_ok-block.block.items ≡ c.bytes.result.now = search rules in
    let copied : c.in_ok-ext.ext.items ≡ c.args.ext.now = search rules in
    let blocks : map bytes_of c.push_reserved.new.self.items ≡ map bytes_of here.blocks.items ++ c.bytes.result.now ∷ [] =
    ap (map bytes_of) (c.push_reserved.ensures.items ∙ ap (λ (l : List (Snapshot (Vec ℕ Global))). l ++ c.of.result ∷ []) c.in_ok-reserve.ensures.items)
    ∙ map_push bytes_of here.blocks.items c.of.result
    ∙ ap (λ (bytes : List ℕ). map bytes_of here.blocks.items ++ bytes ∷ []) (ap (λ (v : Vec ℕ Global). v.items) c.of.ensures ∙ encoding) in
    let exts : map bytes_of c.push_reserved-2.new.self.items ≡ map bytes_of here.exts.items ++ c.args.ext.now ∷ [] =
    ap (map bytes_of) (c.push_reserved-2.ensures.items ∙ ap (λ (l : List (Snapshot (Vec ℕ Global))). l ++ c.of-2.result ∷ []) c.in_ok-reserve-2.ensures.items)
    ∙ map_push bytes_of here.exts.items c.of-2.result
    ∙ ap (λ (bytes : List ℕ). map bytes_of here.exts.items ++ bytes ∷ []) (ap (λ (v : Vec ℕ Global). v.items) c.of-2.ensures ∙ copied) in
    one-remembered (map bytes_of here.blocks.items) (map bytes_of here.exts.items) _ _ c.bytes.result.now c.args.ext.now c.args.block.now c.args.self.now
    (omega (arith, c.self.invariant, length-map here.exts.items bytes_of, length-map here.blocks.items bytes_of)) c.self.view_is blocks exts c.bytes.ensures
