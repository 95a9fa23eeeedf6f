-- What is judged, by the first rule that is broken.
use Rattle.std.proofs.Common.{◌≡◌, ℕ, Bool, true, false, List, ◌∷◌, ◌++◌, Option, Some, None, Result, Err, refl, sym, ap, ◌∙◌}
use Rattle.std.specs.Prelude.{IsOkAnd, IsTrue}
use Rattle.chain_defs.specs.Schema.{Transaction, Block}
use Rattle.chain_defs.specs.Specification.{Specification}
use Rattle.chain_defs.specs.Branch.{branch}
use Rattle.chain_defs.specs.Ext.{Ext}
use Rattle.chain_defs.specs.First.{first_failing}
use Rattle.rule_defs.specs.Site.{Site}
use Rattle.rule_defs.specs.TransactionRules.{has_form, cell_rules}
use Rattle.verdict_defs.specs.Scene.{scene_of}
use Rattle.verdict_defs.specs.ScriptRules.{script_rules}
use Rattle.verdict_defs.specs.Transactions.{is_proposed, transaction_rules}
use Rattle.verdict_defs.specs.Ext.{ext_of}
use Rattle.verdict_defs.specs.Rules.{first_broken}
use Rattle.verdict_defs.specs.Judged.{Passed, unless_broken, passed_at, judged_where, judged, judged_alone, judged_block}

-- ---- One value, and the first rule that is broken

same-rule : {V : Type 0} (one other : ℕ) → ◌≡◌ {A = Result V ℕ} (Err one) (Err other) → one ≡ other
same-rule one other is = cc

pub first-of-broken : {V : Type 0} (passed : V) (first : Option ℕ) (rule : ℕ) → unless_broken passed first ≡ Err rule → first ≡ Some rule
first-of-broken passed (Some its) rule is = ap Some (same-rule its rule is)
first-of-broken passed None rule is = absurd (cc)

pub passes-by : {V : Type 0} (passed : V) (first : Option ℕ) (P : V → Type 0) → IsOkAnd (unless_broken passed first) P → (first ≡ None) × P passed
passes-by passed (Some rule) P is = absurd is
passes-by passed None P is = (refl, is)

pub passes-with : {V : Type 0} (passed : V) (first : Option ℕ) (P : V → Type 0) → first ≡ None → P passed → IsOkAnd (unless_broken passed first) P
passes-with passed (Some rule) P none is = absurd (cc)
passes-with passed None P none is = is

-- ---- A transaction of a block

pub judged-breaks-first : (site : Site) (left : ℕ) (t : Transaction) (rule : ℕ) → judged site left t ≡ Err rule
    → first_failing (transaction_rules site left t) ≡ Some rule
unfolding judged_where
judged-breaks-first site left t rule is = first-of-broken (passed_at site left t) (first_failing (transaction_rules site left t)) rule is

pub judged-passes-by : (site : Site) (left : ℕ) (t : Transaction) (P : Passed → Type 0) → IsOkAnd (judged site left t) P
    → (first_failing (transaction_rules site left t) ≡ None) × P (passed_at site left t)
unfolding judged_where
judged-passes-by site left t P is = passes-by (passed_at site left t) (first_failing (transaction_rules site left t)) P is

pub judged-passes-with : (site : Site) (left : ℕ) (t : Transaction) (P : Passed → Type 0) → first_failing (transaction_rules site left t) ≡ None
    → P (passed_at site left t) → IsOkAnd (judged site left t) P
unfolding judged_where
judged-passes-with site left t P none is = passes-with (passed_at site left t) (first_failing (transaction_rules site left t)) P none is

-- ---- J19 where no proposal is asked for

unasked : (form : Bool) (rest : List (ℕ × Bool)) → first_failing ((18, form) ∷ (19, true) ∷ rest) ≡ first_failing ((18, form) ∷ rest)
unfolding first_failing
unasked true rest = refl
unasked false rest = refl

pub judged-unasked : (site : Site) (left : ℕ) (t : Transaction) → judged_where true site left t ≡ judged_alone site left t
unfolding judged_where judged_alone
judged-unasked site left t =
    ap (unless_broken (passed_at site left t)) (unasked (has_form t) (cell_rules site t ++ script_rules (scene_of site t) left))

-- it is kept by one that is proposed
pub judged-proposed : (site : Site) (left : ℕ) (t : Transaction) → IsTrue (is_proposed site.spec site.branch t) → judged_alone site left t ≡ judged site left t
judged-proposed site left t proposed =
    sym (judged-unasked site left t) ∙ ap (λ (b : Bool). judged_where b site left t) (sym proposed)

-- ---- A block

pub block-breaks-first : (spec : Specification) (kept : List Block) (parent : ℕ) (b : Block) (rule : ℕ) → judged_block spec kept parent b ≡ Err rule
    → first_broken spec (branch kept parent) b ≡ Some rule
block-breaks-first spec kept parent b rule is = first-of-broken (ext_of spec kept parent b) (first_broken spec (branch kept parent) b) rule is

pub block-passes-by : (spec : Specification) (kept : List Block) (parent : ℕ) (b : Block) (P : Ext → Type 0) → IsOkAnd (judged_block spec kept parent b) P
    → (first_broken spec (branch kept parent) b ≡ None) × P (ext_of spec kept parent b)
block-passes-by spec kept parent b P is = passes-by (ext_of spec kept parent b) (first_broken spec (branch kept parent) b) P is
