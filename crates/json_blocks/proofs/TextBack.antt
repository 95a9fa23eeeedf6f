-- The text of a block, of a transaction, of a script and of what a witness holds reads as its tree.
use Rattle.std.proofs.Common.{◌≡◌, ℕ, suc, ◌≤◌, ◌==◌, Bool, true, false, List, [], ◌∷◌, refl, sym, ap, ◌∙◌, arith, append-nil}
use Rattle.std.specs.Prelude.{if◌then◌else◌, Option, Some, None, option_and_then, option_map, max, codes}
use Rattle.json.specs.Json as json
use Rattle.json.specs.Tree as tree
use Rattle.json.specs.Print.{print}
use Rattle.json.specs.Lex.{tokens}
use Rattle.json.specs.Token.{Token}
use Rattle.json.proofs.Printed.Tokens.{tokens-print}
use Rattle.json.proofs.Printed.Trees.{ArePrintable-json_tokens, value-json_tokens}
use Rattle.serde_json.specs.Data.{Data, null, string, array, object, Items, item, Members, no_members, member, put}
use Rattle.serde_json.specs.Read.{max_depth, read, of_json, of_items, of_members}
use Rattle.serde_json.specs.Written.{compact_text, outline, items_outline, members_outline}
use Rattle.serde_json.proofs.Texts.{print-outline}
use Rattle.chain_defs.specs.Schema as schema
use Rattle.json_defs.specs.Form.{Form, items, hex_number, byte_string, named_byte, list, option}
use Rattle.json_defs.specs.Blocks as form

-- the tree has no bare number, nests n deep at most, and is what its JSON reads as
pub record Sound (n : ℕ) (d : Data) : Type 0 where
  numbers : tree.HasNumbers (outline d)
  shallow : tree.depth (outline d) ≤ n
  back : of_json (outline d) ≡ Some d

max_within : (a b n : ℕ) → a ≤ n → b ≤ n → max a b ≤ n
max_within a b n first second = omega arith

pub deeper : (m n : ℕ) {d : Data} → m ≤ n → Sound m d → Sound n d
deeper m n more sound = record { numbers = sound.numbers; shallow = (let h = sound.shallow in omega arith); back = sound.back }

text-sound : (n : ℕ) (s : List ℕ) → Sound n (string s)
text-sound n s = record { numbers = tt; shallow = omega arith; back = refl }

null-sound : (n : ℕ) → Sound n null
null-sound n = record { numbers = tt; shallow = omega arith; back = refl }

pub number-sound : (n x : ℕ) → Sound n (hex_number.tree x)
unfolding hex_number
number-sound n x = text-sound n _

pub bytes-sound : (n : ℕ) (b : List ℕ) → Sound n (byte_string.tree b)
unfolding byte_string
bytes-sound n b = text-sound n _

named-sound : (n : ℕ) (zeroth first : List ℕ) (b : ℕ) → Sound n ((named_byte zeroth first).tree b)
unfolding named_byte
named-sound n zeroth first b = by (b == 0) (b == 1)
  where
    by : (x y : Bool) → Sound n (if x then string zeroth else (if y then string first else byte_string.tree (b ∷ [])))
    by true y = text-sound n zeroth
    by false true = text-sound n first
    by false false = bytes-sound n (b ∷ [])

-- ---- lists

record ItemsSound (n : ℕ) (ds : Items) : Type 0 where
  numbers : tree.ItemsHaveNumbers (items_outline ds)
  shallow : tree.items_depth (items_outline ds) ≤ n
  back : of_items (items_outline ds) ≡ Some ds

items-sound : {V : Type 0} (n : ℕ) (of : V → Data) → ((v : V) → Sound n (of v)) → (vs : List V) → ItemsSound n (items of vs)
items-sound n of each [] = record { numbers = tt; shallow = omega arith; back = refl }
items-sound n of each (v ∷ vs) =
    let head = each v in
    let tail = items-sound n of each vs in
    record {
      numbers = (head.numbers, tail.numbers);
      shallow = max_within _ _ n head.shallow tail.shallow;
      back = ap (λ (o : Option Data). option_and_then (λ d. option_map (item d) (of_items (items_outline (items of vs)))) o) head.back
          ∙ ap (λ (o : Option Items). option_map (item (of v)) o) tail.back;
    }

list-sound : {V : Type 0} (n : ℕ) (of : Form V) → ((v : V) → Sound n (of.tree v)) → (vs : List V) → Sound (suc n) ((list of).tree vs)
list-sound n of each vs =
    let all = items-sound n of.tree each vs in
    record { numbers = all.numbers; shallow = (let h = all.shallow in omega arith); back = ap (option_map array) all.back }

-- ---- objects, member by member

-- the members put after those found
pub record MembersSound (n : ℕ) (found ms whole : Members) : Type 0 where
  numbers : tree.MembersHaveNumbers (members_outline ms)
  shallow : tree.members_depth (members_outline ms) ≤ n
  back : of_members (members_outline ms) found ≡ Some whole

pub no_member-sound : (n : ℕ) (found : Members) → MembersSound n found no_members found
no_member-sound n found = record { numbers = tt; shallow = omega arith; back = refl }

pub member-sound : {n : ℕ} {ms whole : Members} (found : Members) (k : List ℕ) (d : Data) → Sound n d → MembersSound n (put k d found) ms whole → MembersSound n found (member k d ms) whole
member-sound {n} {ms} {whole} found k d here behind = record {
  numbers = (here.numbers, behind.numbers);
  shallow = max_within _ _ n here.shallow behind.shallow;
  back = ap (λ (o : Option Data). option_and_then (λ e. of_members (members_outline ms) (put k e found)) o) here.back ∙ behind.back;
}

pub object-sound : {n : ℕ} (ms : Members) → MembersSound n no_members ms ms → Sound (suc n) (object ms)
object-sound {n} ms all = record { numbers = all.numbers; shallow = (let h = all.shallow in omega arith); back = ap (option_map object) all.back }

script-sound : (s : schema.Script) → Sound 1 (form.script.tree s)
unfolding form.script
script-sound s =
    object-sound _
    (member-sound _ (codes "args") _ (bytes-sound 0 s.args)
    (member-sound _ (codes "code_hash") _ (bytes-sound 0 s.code_hash)
    (member-sound _ (codes "hash_type") _ (named-sound 0 _ _ s.hash_type)
    (no_member-sound 0 _))))

cellbase_witness-sound : (w : schema.CellbaseWitness) → Sound 2 (form.cellbase_witness.tree w)
unfolding form.cellbase_witness
cellbase_witness-sound w =
    object-sound _
    (member-sound _ (codes "lock") _ (script-sound w.lock)
    (member-sound _ (codes "message") _ (bytes-sound 1 w.message)
    (no_member-sound 1 _)))

out_point-sound : (o : schema.OutPoint) → Sound 1 (form.out_point.tree o)
unfolding form.out_point
out_point-sound o =
    object-sound _
    (member-sound _ (codes "index") _ (number-sound 0 o.index)
    (member-sound _ (codes "tx_hash") _ (bytes-sound 0 o.tx_hash)
    (no_member-sound 0 _)))

cell_input-sound : (i : schema.CellInput) → Sound 2 (form.cell_input.tree i)
unfolding form.cell_input
cell_input-sound i =
    object-sound _
    (member-sound _ (codes "previous_output") _ (out_point-sound i.previous_output)
    (member-sound _ (codes "since") _ (number-sound 1 i.since)
    (no_member-sound 1 _)))

cell_dep-sound : (d : schema.CellDep) → Sound 2 (form.cell_dep.tree d)
unfolding form.cell_dep
cell_dep-sound d =
    object-sound _
    (member-sound _ (codes "dep_type") _ (named-sound 1 _ _ d.dep_type)
    (member-sound _ (codes "out_point") _ (out_point-sound d.out_point)
    (no_member-sound 1 _)))

type_script-sound : (s : Option schema.Script) → Sound 1 ((option form.script).tree s)
type_script-sound None = null-sound 1
type_script-sound (Some s) = script-sound s

cell_output-sound : (o : schema.CellOutput) → Sound 2 (form.cell_output.tree o)
unfolding form.cell_output
cell_output-sound o =
    object-sound _
    (member-sound _ (codes "capacity") _ (number-sound 1 o.capacity)
    (member-sound _ (codes "lock") _ (script-sound o.lock)
    (member-sound _ (codes "type") _ (type_script-sound o.type_script)
    (no_member-sound 1 _))))

transaction-sound : (t : schema.Transaction) → Sound 4 (form.transaction.tree t)
unfolding form.transaction
transaction-sound t =
    object-sound _
    (member-sound _ (codes "cell_deps") _ (list-sound 2 form.cell_dep cell_dep-sound t.raw.cell_deps)
    (member-sound _ (codes "header_deps") _ (list-sound 2 byte_string (bytes-sound 2) t.raw.header_deps)
    (member-sound _ (codes "inputs") _ (list-sound 2 form.cell_input cell_input-sound t.raw.inputs)
    (member-sound _ (codes "outputs") _ (list-sound 2 form.cell_output cell_output-sound t.raw.outputs)
    (member-sound _ (codes "outputs_data") _ (list-sound 2 byte_string (bytes-sound 2) t.raw.outputs_data)
    (member-sound _ (codes "version") _ (number-sound 3 t.raw.version)
    (member-sound _ (codes "witnesses") _ (list-sound 2 byte_string (bytes-sound 2) t.witnesses)
    (no_member-sound 3 _))))))))

header-sound : (h : schema.Header) → Sound 1 (form.header.tree h)
unfolding form.header
header-sound h =
    object-sound _
    (member-sound _ (codes "compact_target") _ (number-sound 0 h.compact_target)
    (member-sound _ (codes "dao") _ (bytes-sound 0 h.dao)
    (member-sound _ (codes "epoch") _ (number-sound 0 h.epoch)
    (member-sound _ (codes "nonce") _ (number-sound 0 h.nonce)
    (member-sound _ (codes "number") _ (number-sound 0 h.number)
    (member-sound _ (codes "parent_hash") _ (bytes-sound 0 h.parent_hash)
    (member-sound _ (codes "proposals_hash") _ (bytes-sound 0 h.proposals_hash)
    (member-sound _ (codes "timestamp") _ (number-sound 0 h.timestamp)
    (member-sound _ (codes "transactions_root") _ (bytes-sound 0 h.transactions_root)
    (member-sound _ (codes "uncles_hash") _ (bytes-sound 0 h.uncles_hash)
    (member-sound _ (codes "version") _ (number-sound 0 h.version)
    (no_member-sound 0 _))))))))))))

uncle-sound : (u : schema.UncleBlock) → Sound 2 (form.uncle.tree u)
unfolding form.uncle
uncle-sound u =
    object-sound _
    (member-sound _ (codes "header") _ (header-sound u.header)
    (member-sound _ (codes "proposals") _ (list-sound 0 byte_string (bytes-sound 0) u.proposals)
    (no_member-sound 1 _)))

block-sound : (b : schema.Block) → Sound 6 (form.block.tree b)
unfolding form.block
block-sound b =
    object-sound _
    (member-sound _ (codes "header") _ (deeper 1 5 (omega arith) (header-sound b.header))
    (member-sound _ (codes "proposals") _ (deeper 1 5 (omega arith) (list-sound 0 byte_string (bytes-sound 0) b.proposals))
    (member-sound _ (codes "transactions") _ (list-sound 4 form.transaction transaction-sound b.transactions)
    (member-sound _ (codes "uncles") _ (deeper 3 5 (omega arith) (list-sound 2 form.uncle uncle-sound b.uncles))
    (no_member-sound 5 _)))))

-- the text of a sound tree reads as it
pub text-back : (d : Data) → Sound 127 d → read (compact_text d) ≡ Some d
text-back d sound =
    let tokens_back : tokens (print (tree.json_tokens (outline d))) ≡ tree.json_tokens (outline d) =
    tokens-print (tree.json_tokens (outline d)) (ArePrintable-json_tokens (outline d) sound.numbers) in
    ap read (sym (print-outline d))
    ∙ ap (λ (o : Option (json.Json × List Token)). option_and_then of_json (option_and_then (λ p. json.if_last p.0 p.1) o)) (ap (json.value max_depth) (tokens_back ∙ sym (append-nil (tree.json_tokens (outline d)))) ∙ value-json_tokens (outline d) max_depth [] sound.shallow)
    ∙ sound.back

pub block-text-back : (b : schema.Block) → read (compact_text (form.block.tree b)) ≡ Some (form.block.tree b)
block-text-back b = text-back (form.block.tree b) (deeper 6 127 (omega arith) (block-sound b))

pub transaction-text-back : (t : schema.Transaction) → read (compact_text (form.transaction.tree t)) ≡ Some (form.transaction.tree t)
transaction-text-back t = text-back (form.transaction.tree t) (deeper 4 127 (omega arith) (transaction-sound t))

pub script-text-back : (s : schema.Script) → read (compact_text (form.script.tree s)) ≡ Some (form.script.tree s)
script-text-back s = text-back (form.script.tree s) (deeper 1 127 (omega arith) (script-sound s))

pub cellbase_witness-text-back : (w : schema.CellbaseWitness) → read (compact_text (form.cellbase_witness.tree w)) ≡ Some (form.cellbase_witness.tree w)
cellbase_witness-text-back w = text-back (form.cellbase_witness.tree w) (deeper 2 127 (omega arith) (cellbase_witness-sound w))
