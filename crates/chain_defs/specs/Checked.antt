-- What a read checks of bytes, field by field (docs/FORMATS.md, Strict reading). It holds exactly where the bytes encode
-- a value of the shape, and the accessors of a view rest on it.
use Rattle.std.specs.Prelude.{◌≡◌, ℕ, ◌<◌, List, length, slice_index}
use Rattle.chain_defs.specs.Molecule.{IsFixvec, IsDynvec, IsTable, items_of_fixvec, parts_of}
use Rattle.chain_defs.specs.Shape.{Shape, IsEncoding, table_field}

-- each is a byte ("byte" of RFC 0008)
abbrev pub AreBytes : List ℕ → Type 0
AreBytes b = (i : ℕ) → slice_index b i < 256

-- P is what there is to check of a shape: of bytes, P holds exactly where they encode a value. An encoding has one value.
pub record IsCheckOf {V : Type 0} (P : List ℕ → Type 0) (shape : Shape V) : Type 0 where
  pub value : (b : List ℕ) (v : V) → IsEncoding shape b v → shape.decoding b ≡ v
  pub sound : (b : List ℕ) → AreBytes b → P b → IsEncoding shape b (shape.decoding b)
  pub complete : (b : List ℕ) (v : V) → IsEncoding shape b v → P b

-- ---- by kind (docs/FORMATS.md, Strict reading)

-- An array or a struct has exactly its size.
abbrev pub HasLength : ℕ → List ℕ → Type 0
HasLength n b = length b ≡ n

-- A fixvec of items of `size` bytes.
abbrev pub IsItems : ℕ → List ℕ → Type 0
IsItems size b = IsFixvec size b (items_of_fixvec size b)

-- A `Bytes`: a fixvec of single bytes.
abbrev pub IsBytes : List ℕ → Type 0
IsBytes b = IsItems 1 b

-- No bytes, or bytes of which P holds.
abbrev pub IsOptionOf : (List ℕ → Type 0) → List ℕ → Type 0
IsOptionOf P b = 0 < length b → P b

-- A dynvec, each item of which P holds.
pub record IsListOf (P : List ℕ → Type 0) (b : List ℕ) : Type 0 where
  pub dynvec : IsDynvec b (parts_of b)
  pub items : (i : ℕ) → i < length (parts_of b) → P (table_field b i)

-- A table of n fields.
abbrev pub HasFields : ℕ → List ℕ → Type 0
HasFields n b = IsTable n b (parts_of b)

-- ---- by row: a struct is checked by its length, a table field by field (docs/FORMATS.md, The schema)

abbrev pub IsScript : List ℕ → Type 0
IsScript b =
    HasFields 3 b
    × (HasLength 32 (table_field b 0)
    × (HasLength 1 (table_field b 1)
    × IsBytes (table_field b 2)))

abbrev pub IsCellOutput : List ℕ → Type 0
IsCellOutput b =
    HasFields 3 b
    × (HasLength 8 (table_field b 0)
    × (IsScript (table_field b 1)
    × IsOptionOf IsScript (table_field b 2)))

abbrev pub IsRawTransaction : List ℕ → Type 0
IsRawTransaction b =
    HasFields 6 b
    × (HasLength 4 (table_field b 0)
    × (IsItems 37 (table_field b 1)
    × (IsItems 32 (table_field b 2)
    × (IsItems 44 (table_field b 3)
    × (IsListOf IsCellOutput (table_field b 4)
    × IsListOf IsBytes (table_field b 5))))))

abbrev pub IsTransaction : List ℕ → Type 0
IsTransaction b = HasFields 2 b × (IsRawTransaction (table_field b 0) × IsListOf IsBytes (table_field b 1))

abbrev pub IsUncleBlock : List ℕ → Type 0
IsUncleBlock b = HasFields 2 b × (HasLength 208 (table_field b 0) × IsItems 10 (table_field b 1))

abbrev pub IsBlock : List ℕ → Type 0
IsBlock b =
    HasFields 4 b
    × (HasLength 208 (table_field b 0)
    × (IsListOf IsUncleBlock (table_field b 1)
    × (IsListOf IsTransaction (table_field b 2)
    × IsItems 10 (table_field b 3))))

abbrev pub IsCellbaseWitness : List ℕ → Type 0
IsCellbaseWitness b = HasFields 2 b × (IsScript (table_field b 0) × IsBytes (table_field b 1))

abbrev pub IsWitnessArgs : List ℕ → Type 0
IsWitnessArgs b =
    HasFields 3 b
    × (IsOptionOf IsBytes (table_field b 0)
    × (IsOptionOf IsBytes (table_field b 1)
    × IsOptionOf IsBytes (table_field b 2)))
