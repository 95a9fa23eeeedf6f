-- What is true of the tables, so that a tree tells its block.
use Rattle.std.specs.Prelude.{◌≡◌, ℕ, List, IsTrue, Some, IsUtf8}
use Rattle.chain_defs.specs.Shape.{Shape, IsEncoding}
use Rattle.serde_json.specs.Data.{Data}
use Rattle.serde_json.specs.Read.{read}
use Rattle.serde_json.specs.Written.{compact_text}
use Rattle.json_defs.specs.Form.{Form}
use Rattle.json_defs.specs.Blocks.{text_of}

-- a value is read from its own tree
abbrev pub IsReadBack : {V : Type 0} → Form V → Type 0
IsReadBack {V} form = (v : V) → IsTrue (form.reads v (form.tree v))

-- at most one value of the shape is read from a tree
abbrev pub IsReadOnce : {V : Type 0} → Form V → Shape V → Type 0
IsReadOnce {V} form shape = (v w : V) (t : Data) → IsTrue (shape.encoding v).fits → IsTrue (shape.encoding w).fits
    → IsTrue (form.reads v t) → IsTrue (form.reads w t) → v ≡ w

-- the compact text of a value reads as its tree
abbrev pub IsTextOfTree : {V : Type 0} → Form V → Type 0
IsTextOfTree {V} form = (v : V) → read (compact_text (form.tree v)) ≡ Some (form.tree v)

-- The text is JSON in UTF-8, by serde_json's reading, and its tree is read as the value.
pub record IsReadAs {V : Type 0} (form : Form V) (text : List ℕ) (v : V) : Type 0 where
  pub tree : Data
  pub utf8 : IsUtf8 text
  pub parsed : read text ≡ Some tree
  pub value : IsTrue (form.reads v tree)

-- the text that is written for a value is read as it
abbrev pub IsTextBack : {V : Type 0} → Form V → Type 0
IsTextBack {V} form = (v : V) → IsReadAs form (text_of form v) v

-- at most one value of the shape is read from a text
abbrev pub IsOneOfText : {V : Type 0} → Form V → Shape V → Type 0
IsOneOfText {V} form shape = (v w : V) (text : List ℕ) → IsTrue (shape.encoding v).fits → IsTrue (shape.encoding w).fits
    → IsReadAs form text v → IsReadAs form text w → v ≡ w

-- A form by which each value of a shape has a text that is read as it, and each text at most one value.
pub record HasTexts {V : Type 0} (form : Form V) (shape : Shape V) : Type 0 where
  pub text_of_tree : IsTextOfTree form
  pub read_back : IsReadBack form
  pub read_once : IsReadOnce form shape
  pub text_back : IsTextBack form
  pub one_of_text : IsOneOfText form shape

-- the bytes encode a value that the text is read as
abbrev pub IsEncodingOf : {V : Type 0} → Form V → Shape V → List ℕ → List ℕ → Type 0
IsEncodingOf {V} form shape text bytes = (v : V) × IsEncoding shape bytes v × IsReadAs form text v

-- the text is read as no value of the shape
abbrev pub IsNoText : {V : Type 0} → Form V → Shape V → List ℕ → Type 0
IsNoText {V} form shape text = (v : V) → IsTrue (shape.encoding v).fits → IsReadAs form text v → ⊥
