-- The text of an object, key by key.
use Rattle.std.specs.Prelude.{◌≡◌, ℕ, List, [], ◌∷◌, ◌++◌, Bool, false, ◌&&◌, not, nat_le, ◌==◌, IsTrue}
use Rattle.std.specs.List.{list_all}
use Rattle.json.specs.Print.{quoted}
use Rattle.serde_json.specs.Data.{Data}
use Rattle.serde_json.specs.Written.{compact_text}
use Rattle.json_blocks.specs.declared.text.Text.{Text}

-- a character that stands for itself in a string of JSON
abbrev pub is_plain : ℕ → Bool
is_plain c = nat_le 48 c && not (c == 92)

abbrev pub IsPlain : List ℕ → Type 0
IsPlain s = IsTrue (list_all is_plain s)

-- a mark, a key and its colon
abbrev pub key_text : ℕ → List ℕ → List ℕ
key_text mark key = mark ∷ (quoted key ++ 58 ∷ [])

-- ---- what a call puts after what was there

-- A text where memory has not run out is longer by this, and it had not run out before.
pub record Puts (old new : Text) (text : List ℕ) : Type 0 where
  pub is : new.short ≡ false → (old.short ≡ false) × (new.bytes.items ≡ old.bytes.items ++ text)

-- the compact text of a tree
pub record PutsTree (old new : Text) (d : Data) : Type 0 where
  pub is : Puts old new (compact_text d)

-- a mark, a key with its colon, and the compact text of a tree
pub record PutsRow (old new : Text) (mark : ℕ) (key : List ℕ) (d : Data) : Type 0 where
  pub is : Puts old new (key_text mark key ++ compact_text d)
