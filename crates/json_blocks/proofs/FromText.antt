-- What is read from a text, by what is read from its tree; and that a form has texts.
use Rattle.std.proofs.Common.{◌≡◌, ℕ, true, List, Option, Some, None, Result, Ok, Err, Vec, Global, IsUtf8, refl, sym, ap, subst, ◌∙◌}
use Rattle.std.specs.Prelude.{IsTrue, IfOk}
use Rattle.chain_defs.specs.Shape.{Shape}
use Rattle.serde_json.specs.Data.{Data}
use Rattle.serde_json.specs.Read.{read}
use Rattle.serde_json.specs.Written.{compact_text}
use Rattle.json_blocks.specs.declared.stop.JsonStop.{JsonStop}
use Rattle.json_blocks.specs.declared.stop.JsonStop.TheVariants as stops
use Rattle.json_defs.specs.Form.{Form}
use Rattle.json_defs.specs.Laws.{IsReadBack, IsReadOnce, IsTextOfTree, IsReadAs, IsTextBack, IsOneOfText, HasTexts, IsEncodingOf, IsNoText}
use Rattle.json_blocks.specs.Reading.{Gives, GivesOfText}
use Rattle.json_blocks.proofs.Exact.{Exact}

one_tree : (text : List ℕ) (t u : Data) → read text ≡ Some t → read text ≡ Some u → t ≡ u
one_tree text t u first second = (let same : Some t ≡ Some u = sym first ∙ second in cc)

-- ---- a text, and its tree

pub of_tree : (reads : Data → Option (List ℕ)) (text : List ℕ) (t : Data) → IsUtf8 text → read text ≡ Some t → (r : Result (Vec ℕ Global) JsonStop) → Gives (λ b. b.items) r (reads t)
    → GivesOfText reads text r
of_tree reads text t utf8 is (Ok bytes) gives = (t, utf8, is, gives)
of_tree reads text t utf8 is (Err stops.Bad) gives = λ u utf8' is'. ap reads (one_tree text u t is' is) ∙ gives
of_tree reads text t utf8 is (Err stops.NoMemory) gives = tt

pub of_no_tree : (reads : Data → Option (List ℕ)) (text : List ℕ) (s : JsonStop) → (s ≡ stops.Bad → IsUtf8 text → read text ≡ None) → GivesOfText reads text (Err s)
of_no_tree reads text stops.Bad none = λ t utf8 is. (let same : None ≡ Some t = sym (none refl utf8) ∙ is in absurd (cc))
of_no_tree reads text stops.NoMemory none = tt

-- ---- a text, and the value that it is read as

pub found : {V : Type 0} (form : Form V) (it : Shape V) (reads : Data → Option (List ℕ)) → ((t : Data) → Exact form it t (reads t)) → (text : List ℕ) (r : Result (Vec ℕ Global) JsonStop)
    → GivesOfText reads text r → IfOk r (λ bytes. IsEncodingOf form it text bytes.items)
found form it reads exact text (Ok bytes) (t, utf8, is, gives) = (
    let whole = subst (Exact form it t) gives (exact t) in
    (whole.value, record { fits = whole.fits; encoding = whole.bytes_are }, record { tree = t; utf8 = utf8; parsed = is; value = whole.read }))
found form it reads exact text (Err stop) given = tt

pub only : {V : Type 0} (form : Form V) (it : Shape V) (reads : Data → Option (List ℕ)) → ((t : Data) → Exact form it t (reads t)) → (text : List ℕ) (r : Result (Vec ℕ Global) JsonStop)
    → GivesOfText reads text r → r ≡ Err stops.Bad → IsNoText form it text
only form it reads exact text (Ok bytes) given bad v fits as_v = absurd (cc)
only form it reads exact text (Err stops.Bad) given bad v fits as_v =
    subst (Exact form it as_v.tree) (given as_v.tree as_v.utf8 as_v.parsed) (exact as_v.tree) v fits as_v.value
only form it reads exact text (Err stops.NoMemory) given bad v fits as_v = absurd (cc)

-- ---- that a form has texts

pub back_from_text : {V : Type 0} (form : Form V) → IsTextOfTree form → ((v : V) → IsUtf8 (compact_text (form.tree v))) → IsReadBack form → IsTextBack form
back_from_text form parsed utf8 back v = record { tree = form.tree v; utf8 = utf8 v; parsed = parsed v; value = back v }

pub once_from_text : {V : Type 0} (form : Form V) (it : Shape V) → IsReadOnce form it → IsOneOfText form it
once_from_text form it once v w text fits fits' first second =
    once v w first.tree fits fits' first.value (subst (λ t. form.reads w t ≡ true) (one_tree text second.tree first.tree second.parsed first.parsed) second.value)

pub has_texts : {V : Type 0} (form : Form V) (it : Shape V) → IsTextOfTree form → ((v : V) → IsUtf8 (compact_text (form.tree v))) → IsReadBack form → IsReadOnce form it → HasTexts form it
has_texts form it parsed utf8 back once = record {
  text_of_tree = parsed;
  read_back = back;
  read_once = once;
  text_back = back_from_text form parsed utf8 back;
  one_of_text = once_from_text form it once;
}
