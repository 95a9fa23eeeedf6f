-- What a disk has of the kept blocks once one more is kept, and its record stands after the others.
use Rattle.std.proofs.Common.{◌≡◌, ℕ, suc, ◌+◌, ◌<◌, List, [], ◌∷◌, ◌++◌, length, drop, Option, Some, None, refl, sym, ap, ◌∙◌, subst, arith}
use Rattle.std.specs.Prelude.{is_some, IfSome, IsSome, IsTrue}
use Rattle.std.specs.Option.{option_map}
use Rattle.std.proofs.lemmas.List.{length-map}
use Rattle.std.proofs.lemmas.Option.{same_Some}
use Rattle.outside.specs.Disk.{OthersRead}
use Rattle.outside.specs.Image.{Image, with_content}
use Rattle.outside.specs.declared.disk.Area.TheVariants.{Log}
use Rattle.chain_defs.specs.Shape.{encoded, decoded}
use Rattle.chain_defs.specs.Schema.{Block, block}
use Rattle.chain_defs.proofs.ShapeLaws.{IsEncoding-decoded}
use Rattle.chain_defs.specs.Specification.{Specification}
use Rattle.chain_defs.specs.Ext.{is_ext}
use Rattle.cell_state.specs.State.{StateValue}
use Rattle.chain_tree.specs.declared.entry.Entry.{Entry}
use Rattle.chain_tree.specs.Told.{Stored, blocks_of}
use Rattle.chain_tree.specs.Blocks.{IndexesBlocks}
use Rattle.chain_tree.proofs.BlockLemmas.{len-same}
use Rattle.disk_defs.specs.Log.{Record, records_of, of_blocks, edition_of, end_of_log}
use Rattle.disk_defs.specs.LogLaws.{HasFittingBody}
use Rattle.disk_defs.specs.Rest.{IsSettled, HasAppended}
use Rattle.disk_defs.proofs.Contents.{editions_are_kept, blocks_of_more}
use Rattle.log_file.specs.Pieces.{block_record, Names}
use Rattle.log_file.specs.Grammar.{record_of}
use Rattle.log_file.specs.Opening.{NameBodies, kept_records}
use Rattle.log_file.specs.declared.log.Rec.{Rec}
use Rattle.snapshots.specs.Writing.{HasAnyArea}
use Rattle.node_store.proofs.KeepingLemmas.{no-some}
use Rattle.node_store.specs.Held.{CacheValue, held_at, OnlyAdds, AgreesWith}
use Rattle.node_store.specs.Stored.{later_record, CanBeKept}
use Rattle.node_store.proofs.LogLemmas.{follows_the_log, adds_a_record}
use Rattle.node_store.proofs.AgreeLemmas.{keeps_after_append}
use Rattle.node_store.specs.Kept.{paired, KeptValue, kept_of, kept_with, stored_of}
use Rattle.node_store.specs.Node.{NodeValue, node_of, LogHoldsKept, IsOwnDisk, IsOwnDiskWhereTold}

-- ---- What is kept, with one more

-- as many exts as blocks
pub as-many : (spec : Specification) (stored : List Stored) (entries : List Entry) (kept : KeptValue) → kept_of spec stored entries ≡ kept
    → length kept.exts ≡ length kept.chain.blocks
as-many spec stored entries kept whole =
    ap (λ (k : KeptValue). length k.exts) (sym whole) ∙ length-map stored (λ (it : Stored). it.ext)
    ∙ sym (length-map stored (λ (it : Stored). it.block)) ∙ ap (λ (k : KeptValue). length k.chain.blocks) whole

-- and as many entries
pub place-next : (spec : Specification) (stored : List Stored) (entries : List Entry) (kept : KeptValue) (place : ℕ) → kept_of spec stored entries ≡ kept
    → IndexesBlocks (blocks_of stored) entries → place ≡ length entries → place ≡ length kept.chain.blocks
place-next spec stored entries kept place whole indexed at =
    omega (arith, at, len-same (blocks_of stored) entries indexed, ap (λ (k : KeptValue). length k.chain.blocks) whole)

paired-push : (blocks : List Block) (exts : List (List ℕ)) (b : Block) (ext : List ℕ) → length exts ≡ length blocks
    → paired (blocks ++ b ∷ []) (exts ++ ext ∷ []) ≡ paired blocks exts ++ record { block = b; ext = ext } ∷ []
paired-push [] [] b ext many = refl
paired-push [] (other ∷ exts) b ext many = absurd (omega (arith, many))
paired-push (first ∷ blocks) [] b ext many = absurd (omega (arith, many))
paired-push (first ∷ blocks) (other ∷ exts) b ext many =
    ap (λ (later : List Stored). record { block = first; ext = other } ∷ later) (paired-push blocks exts b ext (omega (arith, many)))

paired-length : (blocks : List Block) (exts : List (List ℕ)) → length exts ≡ length blocks → length (paired blocks exts) ≡ length blocks
paired-length [] exts many = refl
paired-length (first ∷ blocks) [] many = absurd (omega (arith, many))
paired-length (first ∷ blocks) (other ∷ exts) many = ap suc (paired-length blocks exts (omega (arith, many)))

-- the entry, as a record is named
abbrev pub named_by : Entry → Rec → Entry
named_by entry rec = record entry { at = rec.at; len = rec.len }

-- ---- The log with its record

module _ (kept next : KeptValue) (b : Block) (item ext : List ℕ) (entry : Entry) (rec : Rec) (place : ℕ) (cache later : CacheValue)
    (is : next ≡ kept_with kept b ext entry) (many : length kept.exts ≡ length kept.chain.blocks) (some : 0 < length kept.chain.blocks)
    (canonical : decoded block item ≡ Some b) (form : IsTrue (is_ext ext)) (fits : HasFittingBody (block_record item ext))
    (names : Names rec place (block_record item ext)) (at : entry.at ≡ rec.at) (len : entry.len ≡ rec.len)
    (adds : OnlyAdds (length kept.chain.blocks) (record { block = b; ext = ext }) cache.held later.held) where
  abbrev one_more : Stored
  one_more = record { block = b; ext = ext }

  bytes_are : item ≡ encoded block b
  bytes_are = (IsEncoding-decoded block item b canonical).encoding

  record_is : block_record item ext ≡ later_record one_more
  record_is = ap (λ (bytes : List ℕ). block_record bytes ext) bytes_are

  stored_many : length (stored_of kept) ≡ length kept.chain.blocks
  stored_many = paired-length kept.chain.blocks kept.exts many

  stored_some : 0 < length (stored_of kept)
  stored_some = omega (arith, stored_many, some)

  stored_is : stored_of next ≡ stored_of kept ++ one_more ∷ []
  stored_is = ap stored_of is ∙ paired-push kept.chain.blocks kept.exts b ext many

  records_are : kept_records (stored_of kept) ++ block_record item ext ∷ [] ≡ kept_records (stored_of next)
  records_are =
      ap (λ (r : Record). kept_records (stored_of kept) ++ r ∷ []) record_is
      ∙ sym (adds_a_record (stored_of kept) one_more stored_some).0 ∙ ap kept_records (sym stored_is)

  module _ (image now : Image) (read : LogHoldsKept kept cache.held image) (ends : end_of_log image.log ≡ place)
      (holds : records_of (drop 8 now.log) ≡ (record_of 1 read.specification ∷ read.records) ++ block_record item ext ∷ []) where
    keeps_next : of_blocks (read.records ++ block_record item ext ∷ []) ≡ kept_records (stored_of next)
    keeps_next =
        blocks_of_more read.records (block_record item ext) refl
        ∙ ap (λ (records : List Record). records ++ block_record item ext ∷ []) read.keeps ∙ records_are

    edition_next : edition_of (read.records ++ block_record item ext ∷ []) ≡ next.chain.spec.second_from
    edition_next = (editions_are_kept read.records (block_record item ext)).same refl ∙ read.edition ∙ ap (λ (k : KeptValue). k.chain.spec.second_from) (sym is)

    named_next : NameBodies (14 + length read.specification) (read.records ++ block_record item ext ∷ []) next.entries
    named_next =
        subst (λ (entries : List Entry). NameBodies (14 + length read.specification) (read.records ++ block_record item ext ∷ []) entries)
        (sym (ap (λ (k : KeptValue). k.entries) is))
        (follows_the_log image.log read.specification read.records kept.entries (block_record item ext) rec entry read.names refl
        (subst (λ (p : ℕ). Names rec p (block_record item ext)) (sym ends) names) at len)

    can_next : CanBeKept (stored_of next)
    can_next =
        subst CanBeKept (sym stored_is)
        ((adds_a_record (stored_of kept) one_more stored_some).1 read.can (subst (λ (bytes : List ℕ). decoded block bytes ≡ Some b) bytes_are canonical) form
        (subst HasFittingBody record_is fits))

    agrees_next : AgreesWith (stored_of next) later.held
    agrees_next =
        subst (λ (stored : List Stored). AgreesWith stored later.held) (sym stored_is)
        (keeps_after_append (stored_of kept) one_more cache.held later.held read.agrees
        (subst (λ (n : ℕ). OnlyAdds n one_more cache.held later.held) (sym stored_many) adds))

    -- LOG has what is kept then
    read_next : LogHoldsKept next later.held now
    read_next = record {
      specification = read.specification;
      records = read.records ++ block_record item ext ∷ [];
      keeps = keeps_next;
      edition = edition_next;
      names = record { holds = holds; named = named_next };
      can = can_next;
      agrees = agrees_next;
    }

  module _ (cells cells1 : StateValue) (end : ℕ) (reads reads1 : Option Image) (images images1 : Image → Type 0)
      (after : (records : List Record) → IsSettled place records reads images → IsSettled end (records ++ block_record item ext ∷ []) reads1 images1) where
    settled_then : (of : IsOwnDisk (node_of kept place cells cache) reads images)
        → IsSettled end ((record_of 1 of.read.specification ∷ of.read.records) ++ block_record item ext ∷ []) reads1 images1
    settled_then of = after (record_of 1 of.read.specification ∷ of.read.records) of.settled

    of_next : IsOwnDisk (node_of kept place cells cache) reads images → IsOwnDisk (node_of next end cells1 later) reads1 images1
    unfolding read_next
    of_next of =
        let then = settled_then of in
        record {
          now = then.now;
          told = then.told;
          read = read_next of.now then.now of.read (ends_there of) then.rest.holds;
          settled = then;
        }
      where
        ends_there : (there : IsOwnDisk (node_of kept place cells cache) reads images) → end_of_log there.now.log ≡ place
        ends_there there =
            subst (λ (image : Image). end_of_log image.log ≡ place) (same_Some there.settled.now there.now (sym there.settled.told ∙ there.told))
            there.settled.rest.ends

    -- so the disk is its own then
    pub own_next : IsOwnDiskWhereTold (node_of kept place cells cache) reads images → OthersRead Log reads reads1 → IsOwnDiskWhereTold (node_of next end cells1 later) reads1 images1
    own_next own others = by_read reads refl
      where
        by_read : (found : Option Image) → reads ≡ found → IsOwnDiskWhereTold (node_of next end cells1 later) reads1 images1
        by_read None none =
            subst (λ (o : Option Image). IsOwnDiskWhereTold (node_of next end cells1 later) o images1) (sym (others.1 ∙ ap (option_map (with_content Log others.0)) none)) tt
        by_read (Some image) told =
            let of = of_next (subst (λ (o : Option Image). IfSome o (λ _. IsOwnDisk (node_of kept place cells cache) reads images)) told own) in
            subst (λ (o : Option Image). IfSome o (λ _. IsOwnDisk (node_of next end cells1 later) reads1 images1)) (sym of.told) of

-- what a disk has of a node where it tells
pub of_told : (node : NodeValue) (reads : Option Image) (images : Image → Type 0) (image : Image) → reads ≡ Some image → IsOwnDiskWhereTold node reads images
    → IsOwnDisk node reads images
of_told node reads images image told own = subst (λ (o : Option Image). IfSome o (λ _. IsOwnDisk node reads images)) told own

pub of_some : (node : NodeValue) (reads : Option Image) (images : Image → Type 0) → IsSome reads → IsOwnDiskWhereTold node reads images → IsOwnDisk node reads images
of_some node None images told own = absurd (no-some told)
of_some node (Some image) images told own = own

-- while a record is put after the others, the areas of snapshots are as they were
pub appended-beside : (place : ℕ) (records : List Record) (r : Record) (images : Image → Type 0) (image : Image) → HasAppended place records r images image
    → HasAnyArea Log images image
appended-beside place records r images image (before, left, (bytes, appended, is)) = (before, left, (bytes, tt, is))

-- a byte stands where its records end
pub own_there : (node : NodeValue) (reads : Option Image) (images : Image → Type 0) → IsOwnDiskWhereTold node reads images
    → IfSome reads (λ image. node.place < length image.log)
own_there node None images own = tt
own_there node (Some image) images own =
    subst (λ (now : Image). node.place < length now.log) (same_Some own.settled.now image (sym own.settled.told)) own.settled.rest.there

-- what a cache took more, for the place and the block that it was put for
pub adds-here : (place count : ℕ) (found it : Stored) (old new : List (ℕ × Stored)) → place ≡ count → found ≡ it → OnlyAdds place found old new
    → OnlyAdds count it old new
adds-here place count found it old new at is adds =
    subst (λ (n : ℕ). OnlyAdds n it old new) at (subst (λ (one : Stored). OnlyAdds place one old new) is adds)

-- one that is put has an ext of the form of one
pub has-form : (found it : Stored) (ext : List ℕ) → found ≡ it → it.ext ≡ ext → IsTrue (is_ext ext) → IsTrue (is_ext found.ext)
has-form found it ext is beside form = subst (λ (l : List ℕ). IsTrue (is_ext l)) (sym (ap (λ (one : Stored). one.ext) is ∙ beside)) form

-- what is held for the place that it was put under
pub held_next : (held : List (ℕ × Stored)) (place count : ℕ) (found : Stored) → place ≡ count → held_at held place ≡ Some found → IsSome (held_at held count)
held_next held place count found at is =
    subst (λ (n : ℕ). IsSome (held_at held n)) at (ap is_some is)
