-- The rows of a branch, and what the first with a hash says of the transaction.
use Rattle.std.proofs.Common.{◌≡◌, ℕ, zero, suc, ◌+◌, ◌<◌, Bool, true, false, List, [], ◌∷◌, ◌++◌, map, take, length, refl, sym, ap, ◌∙◌, subst, arith, append_assoc, append-nil}
use Rattle.std.specs.Prelude.{Option, Some, None, IfSome, IsSomeAnd, slice_get, if◌then◌else◌}
use Rattle.std.specs.Option.{option_map}
use Rattle.std.proofs.lemmas.Option.{slice_get_within}
use Rattle.std.specs.Str.{bytes_eq}
use Rattle.chain_defs.specs.Schema.{Block, Transaction}
use Rattle.chain_defs.specs.Hashes.{transaction_hash}
use Rattle.chain_defs.specs.Kept.{block_at, IsKept}
use Rattle.chain_defs.specs.Branch.{branch, branch_places, IsBranch}
use Rattle.chain_defs.specs.Tip.{tip_place, best_branch}
use Rattle.chain_defs.proofs.KeptLaws.{slice_get-below}
use Rattle.chain_defs.proofs.BranchLaws.{IsBranch-branch}
use Rattle.chain_tree.specs.declared.entry.Entry.{Entry}
use Rattle.chain_tree.specs.Entries.{entry_at}
use Rattle.chain_tree.specs.Blocks.{Describes, IndexesBlocks}
use Rattle.chain_tree.proofs.BlockLemmas.{len-same}
use Rattle.node_store.proofs.QueryLemmas.{best-is, best-long, block-at}
use Rattle.ask_defs.specs.Answers.{place_among, committed_by, committed_on}
use Rattle.transaction_index.specs.declared.row.Row.{Row}
use Rattle.transaction_index.specs.Rows.{first_row, rows_from, rows_in, rows_of}
use Rattle.run_ask.specs.Finding.{stands_at, row_at, IndexesCommitted, IsFoundIn}
use Rattle.run_ask.proofs.CommitLemmas.{describes-there}

-- ---- One block more

pub rows_push : (blocks : List Block) (b : Block) → rows_of (blocks ++ b ∷ []) ≡ rows_of blocks ++ rows_in b
rows_push [] b = append-nil (rows_in b)
rows_push (first ∷ blocks) b =
    ap (λ (rows : List Row). rows_in first ++ rows) (rows_push blocks b) ∙ sym (append_assoc (rows_in first) (rows_of blocks) (rows_in b))

pub blocks-to : (blocks : List Block) (height : ℕ) (b : Block) → block_at blocks height ≡ Some b → take (height + 1) blocks ≡ take height blocks ++ b ∷ []
blocks-to [] height b there = absurd (cc)
blocks-to (first ∷ blocks) zero b there = let same : first ≡ b = cc in ap (λ (x : Block). x ∷ []) same
blocks-to (first ∷ blocks) (suc height) b there =
    let same : suc height + 1 ≡ suc (height + 1) = omega arith in
    ap (λ (n : ℕ). take n (first ∷ blocks)) same ∙ ap (λ (bs : List Block). first ∷ bs) (blocks-to blocks height b there)

-- ---- The first row with a hash

abbrev pair : ℕ → ℕ → ℕ × ℕ
pair number place = (number, place)

abbrev at_place : ℕ → ℕ → ℕ → ℕ × ℕ
at_place number place k = pair number (place + k)

abbrev or_at : Option (ℕ × ℕ) → Option (ℕ × ℕ) → Option (ℕ × ℕ)
or_at None other = other
or_at (Some at) other = Some at

first-append : (rows more : List Row) (hash : List ℕ)
    → option_map row_at (first_row (rows ++ more) hash) ≡ or_at (option_map row_at (first_row rows hash)) (option_map row_at (first_row more hash))
first-append [] more hash = refl
first-append (row ∷ rows) more hash = by_test (first-append rows more hash) (bytes_eq row.hash hash)
  where
    by_test : option_map row_at (first_row (rows ++ more) hash) ≡ or_at (option_map row_at (first_row rows hash)) (option_map row_at (first_row more hash))
        → (t : Bool) → option_map row_at (if t then Some row else first_row (rows ++ more) hash)
        ≡ or_at (option_map row_at (if t then Some row else first_row rows hash)) (option_map row_at (first_row more hash))
    by_test rest true = refl
    by_test rest false = rest

-- of a block
first-in : (number place : ℕ) (txs : List Transaction) (hash : List ℕ)
    → option_map row_at (first_row (rows_from number place (map transaction_hash txs)) hash) ≡ option_map (at_place number place) (place_among txs hash)
first-in number place [] hash = refl
first-in number place (tx ∷ txs) hash = by_test (first-in number (suc place) txs hash) (bytes_eq (transaction_hash tx) hash)
  where
    later : List Row
    later = rows_from number (suc place) (map transaction_hash txs)

    further : (o : Option ℕ) → option_map (at_place number (suc place)) o ≡ option_map (at_place number place) (option_map suc o)
    further None = refl
    further (Some k) = let same : suc place + k ≡ place + suc k = omega arith in ap (λ (n : ℕ). Some (pair number n)) same

    by_test : option_map row_at (first_row later hash) ≡ option_map (at_place number (suc place)) (place_among txs hash) → (t : Bool)
        → option_map row_at (if t then Some (record { hash = transaction_hash tx; number = number; place = place }) else first_row later hash)
        ≡ option_map (at_place number place) (if t then Some 0 else option_map suc (place_among txs hash))
    by_test rest true = let same : place ≡ place + 0 = omega arith in ap (λ (n : ℕ). Some (pair number n)) same
    by_test rest false = rest ∙ further (place_among txs hash)

-- and of a branch
pub rows-committed : (blocks : List Block) (hash : List ℕ) → option_map row_at (first_row (rows_of blocks) hash) ≡ option_map stands_at (committed_on blocks hash)
rows-committed [] hash = refl
rows-committed (b ∷ later) hash =
    first-append (rows_in b) (rows_of later) hash
    ∙ (λ i. or_at (first-in b.header.number 0 b.transactions hash i) (rows-committed later hash i))
    ∙ by_place (place_among b.transactions hash)
  where
    by_place : (o : Option ℕ) → or_at (option_map (at_place b.header.number 0) o) (option_map stands_at (committed_on later hash))
        ≡ option_map stands_at (committed_by b (committed_on later hash) o)
    by_place None = refl
    by_place (Some k) = let same : 0 + k ≡ k = omega arith in ap (λ (n : ℕ). Some (pair b.header.number n)) same

-- rows with the same first of each hash
pub index-of : (branch : List Block) (rows index : List Row) → rows ≡ rows_of branch → ((hash : List ℕ) → first_row index hash ≡ first_row rows hash) → IndexesCommitted branch index
index-of branch rows index is first hash =
    ap (option_map row_at) (first hash) ∙ ap (λ (them : List Row). option_map row_at (first_row them hash)) is ∙ rows-committed branch hash

-- ---- What a row says

abbrev found_at : Block → ℕ → Block × ℕ
found_at block place = (block, place)

-- The block that committed a transaction, which a row names.
pub record IsCommittedIn (branch : List Block) (hash : List ℕ) (row : Row) : Type 0 where
  pub block : Block
  pub height : ℕ
  pub there : block_at branch height ≡ Some block
  pub first : committed_on branch hash ≡ Some (block, row.place)
  pub number : row.number ≡ block.header.number

committed-at : (branch : List Block) (hash : List ℕ) (found : Block × ℕ) → committed_on branch hash ≡ Some found → (height : ℕ) × (block_at branch height ≡ Some found.0)
committed-at [] hash found is = absurd (cc is)
committed-at (b ∷ later) hash found is = by_place (λ more. committed-at later hash found more) (place_among b.transactions hash) is
  where
    by_place : (committed_on later hash ≡ Some found → (height : ℕ) × (block_at later height ≡ Some found.0)) → (o : Option ℕ) → committed_by b (committed_on later hash) o ≡ Some found → (height : ℕ) × (block_at (b ∷ later) height ≡ Some found.0)
    by_place rest None is = let more = rest is in (suc more.0, more.1)
    by_place rest (Some place) is = let same : (b, place) ≡ found = cc in (zero, ap (λ (x : Block × ℕ). Some x.0) same)

pub row-none : (branch : List Block) (hash : List ℕ) (found : Option Row) → option_map row_at found ≡ option_map stands_at (committed_on branch hash) → found ≡ None
    → committed_on branch hash ≡ None
row-none branch hash found same none = by_found (committed_on branch hash) (ap (option_map row_at) (sym none) ∙ same)
  where
    by_found : (o : Option (Block × ℕ)) → None ≡ option_map stands_at o → o ≡ None
    by_found None is = refl
    by_found (Some found) is = absurd (cc is)

pub row-some : (branch : List Block) (hash : List ℕ) (found : Option Row) (row : Row) → option_map row_at found ≡ option_map stands_at (committed_on branch hash) → found ≡ Some row
    → IsCommittedIn branch hash row
row-some branch hash found row same some = by_found (committed_on branch hash) refl (ap (option_map row_at) (sym some) ∙ same)
  where
    by_found : (o : Option (Block × ℕ)) → committed_on branch hash ≡ o → Some (row_at row) ≡ option_map stands_at o → IsCommittedIn branch hash row
    by_found None is at = absurd (cc at)
    by_found (Some it) is at =
        let here = committed-at branch hash it is in
        let same : pair row.number row.place ≡ pair it.0.header.number it.1 = cc in
        record {
          block = it.0;
          height = here.0;
          there = here.1;
          first = is ∙ ap (λ (n : ℕ). Some (found_at it.0 n)) (sym (ap (λ (p : ℕ × ℕ). p.1) same));
          number = ap (λ (p : ℕ × ℕ). p.0) same;
        }

-- ---- Where the block is kept

-- the number of a block of the best branch is its height
pub number-at : (kept : List Block) (tip height : ℕ) (b : Block) → IsKept kept → IfSome (block_at kept 0) (λ (first : Block). first.header.number ≡ 0) → tip < length kept
    → tip_place kept ≡ Some tip → block_at (best_branch kept) height ≡ Some b → b.header.number ≡ height
number-at kept tip height b is_kept genesis below is there =
    let first = slice_get-below kept 0 (omega (arith, below)) in
    let zeroth : first.0.header.number ≡ 0 = subst (λ (o : Option Block). IfSome o (λ (x : Block). x.header.number ≡ 0)) first.1 genesis in
    let branched : IsBranch kept tip (branch kept tip) = IsBranch-branch kept tip is_kept below in
    let at : block_at (branch kept tip) height ≡ Some b = ap (λ (blocks : List Block). block_at blocks height) (sym (best-is kept tip is)) ∙ there in
    let number : b.header.number ≡ first.0.header.number + height = branched.numbered height first.0 b first.1 at in
    omega (arith, number, zeroth)

-- below the length of the branch
pub height-below : (blocks : List Block) (height : ℕ) (b : Block) → block_at blocks height ≡ Some b → height < length blocks
height-below blocks height b there = slice_get_within blocks height b there

-- the one that an entry describes
pub found-in : (kept : List Block) (entries : List Entry) (tip : ℕ) (hash : List ℕ) (row : Row) (at : ℕ) (entry : Entry)
    → IndexesBlocks kept entries → tip < length entries → tip_place kept ≡ Some tip → slice_get (branch_places kept tip) row.number ≡ Some at
    → IsSomeAnd (block_at kept at) (λ block. Describes block entry) → IsCommittedIn (best_branch kept) hash row
    → IsFoundIn kept hash (record { number = row.number; hash = entry.hash; place = row.place })
found-in kept entries tip hash row at entry indexed below is on_branch described in_block =
    let within : tip < length kept = omega (arith, below, len-same kept entries indexed) in
    let height : in_block.block.header.number ≡ in_block.height = number-at kept tip in_block.height in_block.block indexed.is_kept indexed.genesis within is in_block.there in
    let same : row.number ≡ in_block.height = in_block.number ∙ height in
    let there : block_at kept at ≡ Some in_block.block =
    block-at kept entries tip indexed is row.number at below on_branch ∙ ap (λ (n : ℕ). block_at (best_branch kept) n) same ∙ in_block.there in
    record {
      block = in_block.block;
      first = in_block.first;
      number = in_block.number;
      its_hash = (describes-there kept at entry in_block.block described there).hash;
    }

-- a number above the tip's is no row's
pub none-above-tip : (kept : List Block) (entries : List Entry) (tip : ℕ) (hash : List ℕ) (row : Row) (entry : Entry) → IndexesBlocks kept entries → tip < length entries
    → tip_place kept ≡ Some tip → entry_at entries tip ≡ Some entry → entry.number < row.number → IsCommittedIn (best_branch kept) hash row → ⊥
none-above-tip kept entries tip hash row entry indexed below is there above in_block =
    let within : tip < length kept = omega (arith, below, len-same kept entries indexed) in
    let height : in_block.block.header.number ≡ in_block.height = number-at kept tip in_block.height in_block.block indexed.is_kept indexed.genesis within is in_block.there in
    omega (arith, above, in_block.number, height, height-below (best_branch kept) in_block.height in_block.block in_block.there, best-long kept entries tip indexed is entry there)
