-- The encoding of a witness that has one is of bytes.
use Rattle.std.proofs.Common.{◌≡◌, ℕ, ◌+◌, List, [], ◌∷◌, ◌++◌, length, map, refl, sym, ap, subst}
use Rattle.std.specs.Prelude.{IsTrue}
use Rattle.std.specs.Int.{w32, to_le_bytes}
use Rattle.std.specs.List.{concat, AllByRecursion}
use Rattle.std.proofs.lemmas.Bool.{and_from, and_parts}
use Rattle.chain_defs.specs.Molecule as molecule
use Rattle.chain_defs.specs.Shape.{are_bytes, encoded, bytes}
use Rattle.chain_defs.specs.Schema.{Script, script, CellbaseWitness, cellbase_witness}
use Rattle.gen_defs.proofs.SizeLemmas.{low-bytes, append-bytes}

abbrev AreBytes : List ℕ → Type 0
AreBytes b = IsTrue (are_bytes b)

offsets-bytes : (start : ℕ) (ps : List (List ℕ)) → AreBytes (molecule.offsets start ps)
unfolding molecule.offsets
offsets-bytes start [] = refl
offsets-bytes start (p ∷ ps) = append-bytes (to_le_bytes w32 start) (molecule.offsets (start + length p) ps) (low-bytes 0 4 start) (offsets-bytes (start + length p) ps)

concat-bytes : (ps : List (List ℕ)) → AllByRecursion (λ p. AreBytes p) ps → AreBytes (concat ps)
concat-bytes [] all = refl
concat-bytes (p ∷ ps) all = append-bytes p (concat ps) all.0 (concat-bytes ps all.1)

dynvec-bytes : (ps : List (List ℕ)) → AllByRecursion (λ p. AreBytes p) ps → AreBytes (molecule.dynvec ps)
unfolding molecule.dynvec
dynvec-bytes ps all =
    append-bytes (to_le_bytes w32 (molecule.full_size ps)) (molecule.offsets (molecule.header_size ps) ps ++ concat ps) (low-bytes 0 4 (molecule.full_size ps))
    (append-bytes (molecule.offsets (molecule.header_size ps) ps) (concat ps) (offsets-bytes (molecule.header_size ps) ps) (concat-bytes ps all))

singles : (content : List ℕ) → concat (map (λ b. b ∷ []) content) ≡ content
singles [] = refl
singles (b ∷ content) = ap (λ (l : List ℕ). b ∷ l) (singles content)

content-bytes : (content : List ℕ) → AreBytes content → AreBytes (encoded bytes content)
unfolding molecule.fixvec
content-bytes content all =
    append-bytes (to_le_bytes w32 (length (map (λ b. b ∷ []) content))) (concat (map (λ b. b ∷ []) content)) (low-bytes 0 4 (length (map (λ b. b ∷ []) content)))
    (subst AreBytes (sym (singles content)) all)

script-bytes : (s : Script) → IsTrue (script.encoding s).fits → AreBytes (encoded script s)
unfolding script
script-bytes s fits =
    let fields = (and_parts _ _ fits).1 in
    let hash = and_parts _ _ fields in
    let kind = and_parts _ _ hash.1 in
    let args = and_parts _ _ kind.1 in
    dynvec-bytes (s.code_hash ∷ (s.hash_type ∷ []) ∷ encoded bytes s.args ∷ [])
    ((and_parts _ _ hash.0).1, (and_from _ _ kind.0 refl, (content-bytes s.args (and_parts _ _ args.0).1, tt)))

pub witness-bytes : (w : CellbaseWitness) → IsTrue (cellbase_witness.encoding w).fits → AreBytes (encoded cellbase_witness w)
unfolding cellbase_witness
witness-bytes w fits =
    let fields = (and_parts _ _ fits).1 in
    let lock = and_parts _ _ fields in
    let message = and_parts _ _ lock.1 in
    dynvec-bytes (encoded script w.lock ∷ encoded bytes w.message ∷ [])
    (script-bytes w.lock lock.0, (content-bytes w.message (and_parts _ _ message.0).1, tt))
