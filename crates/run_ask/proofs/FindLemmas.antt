-- A kept block that was found by its hash, by its bytes.
use Rattle.std.proofs.Common.{◌≡◌, ℕ, List, Option, Some, None, Vec, Global, ap, sym, ◌∙◌, subst}
use Rattle.std.specs.Option.{option_map}
use Rattle.chain_defs.specs.Shape.{IsEncoding}
use Rattle.chain_defs.specs.Schema.{Block, block}
use Rattle.verdict_defs.specs.Chain.{Chain}
use Rattle.ask_defs.specs.Answers.{block_named}
use Rattle.run_ask.specs.Finding.{IsNamed}

pub block-found : (chain : Chain) (hash : List ℕ) (found : Option (Vec ℕ Global)) (v : Vec ℕ Global) (bytes : List ℕ) → found ≡ Some v → bytes ≡ v.items
    → IsNamed chain hash (option_map (λ (v : Vec ℕ Global). v.items) found) → (b : Block) × (block_named chain hash ≡ Some b) × IsEncoding block bytes b
block-found chain hash found v bytes is same there =
    subst (λ (bytes : List ℕ). IsNamed chain hash (Some bytes)) (sym same)
    (subst (λ (found : Option (Vec ℕ Global)). IsNamed chain hash (option_map (λ (v : Vec ℕ Global). v.items) found)) is there)

pub none-found : (chain : Chain) (hash : List ℕ) (found : Option (Vec ℕ Global)) → found ≡ None
    → IsNamed chain hash (option_map (λ (v : Vec ℕ Global). v.items) found) → block_named chain hash ≡ None
none-found chain hash found is there =
    subst (λ (found : Option (Vec ℕ Global)). IsNamed chain hash (option_map (λ (v : Vec ℕ Global). v.items) found)) is there

-- ---- A transaction that a text asks to be judged

pub checked-some : (wanted : Option (List ℕ)) (found : Option (Vec ℕ Global)) (v : Vec ℕ Global) → found ≡ Some v
    → option_map (λ (v : Vec ℕ Global). v.items) found ≡ wanted → Some v.items ≡ wanted
checked-some wanted found v is same = ap (option_map (λ (v : Vec ℕ Global). v.items)) (sym is) ∙ same

pub checked-none : (wanted : Option (List ℕ)) (found : Option (Vec ℕ Global)) → found ≡ None → option_map (λ (v : Vec ℕ Global). v.items) found ≡ wanted → None ≡ wanted
checked-none wanted found is same = ap (option_map (λ (v : Vec ℕ Global). v.items)) (sym is) ∙ same
