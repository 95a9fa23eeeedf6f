-- What is to become of a block and of an item.
use Rattle.std.specs.Prelude.{◌≡◌, ℕ, ◌-◌, ◌<◌, nat_lt, nat_le, Bool, true, false, List, map, length, Option, Some, None, if◌then◌else◌, IsTrue}
use Rattle.chain_defs.specs.Shape.{decoded}
use Rattle.chain_defs.specs.Schema.{Block, block}
use Rattle.chain_defs.specs.Kept.{block_hash, place_of, follows, kept_limit}
use Rattle.chain_defs.specs.Branch.{branch}
use Rattle.chain_defs.specs.Tip.{tip, tip_place}
use Rattle.chain_tree.specs.declared.entry.Entry.{Entry}
use Rattle.chain_tree.specs.Blocks.{Describes}
use Rattle.rule_defs.specs.Header.{parent_of, header_rules}
use Rattle.rule_defs.specs.Body.{fits_length}
use Rattle.chain_defs.specs.First.{first_failing}
use Rattle.chain_defs.specs.Dao.{is_rated}
use Rattle.chain_defs.specs.Hashes.{transaction_hash}
use Rattle.verdict_defs.specs.Rules.{broken_at_sight}
use Rattle.verdict_defs.specs.Ext.{ext_of}
use Rattle.verdict_defs.specs.Verdict.{joins, verdict_of_block}
use Rattle.verdict_defs.specs.Chain.{Chain, verdict_over}
use Rattle.verdict_defs.specs.Laws.{MayJoin}
use Rattle.node_store.specs.declared.decision.Joining.{Joining}
use Rattle.node_store.specs.declared.decision.Decision.{Decision}
use Rattle.node_store.specs.declared.decision.Decision.TheVariants.{Joins, Stays}

-- The entry is that of a block that is not kept, on the kept parent that it names.
pub record IsEntryOn (kept : List Block) (b : Block) (entry : Entry) : Type 0 where
  pub new : place_of kept (block_hash b) ≡ None
  pub on_kept : place_of kept b.header.parent_hash ≡ Some entry.parent
  pub describes : Describes b entry

-- A block has passed at sight after a chain, on a kept parent: these are the hashes of its transactions, of which it has one, and it breaks none of
-- the rules that ask for no live cell.
pub record HasPassed (chain : Chain) (parent : ℕ) (b : Block) (hashes : List (List ℕ)) : Type 0 where
  pub hashes_are : hashes ≡ map transaction_hash b.transactions
  pub some : 0 < length b.transactions
  pub sight : broken_at_sight chain.spec (branch chain.blocks parent) b ≡ None

-- All that is asked of a block to be kept, whether or not those before it joined; what travels with it are the hashes of its transactions.
pub record IsReady (kept : List Block) (b : Block) (joining : Joining) : Type 0 where
  pub entry : IsEntryOn kept b joining.entry
  pub next : IsTrue (follows b (parent_of (branch kept joining.entry.parent)))
  pub room : length kept < kept_limit
  pub rated : IsTrue (is_rated b.header.dao)
  pub fees : length joining.ext.fees ≡ length b.transactions - 1
  pub hashes : joining.hashes.items ≡ map transaction_hash b.transactions

-- Memory may be wanted to judge a block after a chain: it is not kept and its parent is, it breaks no rule on a header there, and its length and the
-- count of its proposals are within their limits.
pub record WantsMemory (chain : Chain) (b : Block) : Type 0 where
  pub new : place_of chain.blocks (block_hash b) ≡ None
  pub parent : ℕ
  pub on_kept : place_of chain.blocks b.header.parent_hash ≡ Some parent
  pub header : first_failing (header_rules chain.spec (branch chain.blocks parent) b) ≡ None
  pub short : fits_length chain.spec b ≡ true
  pub few : nat_le (length b.proposals) chain.spec.max_proposals ≡ true

-- It has passed at sight after a chain too, so memory may be wanted to judge it.
pub record MayBeKept (chain : Chain) (b : Block) (joining : Joining) : Type 0 where
  pub ready : IsReady chain.blocks b joining
  pub sight : broken_at_sight chain.spec (branch chain.blocks joining.entry.parent) b ≡ None
  pub wants : WantsMemory chain b

abbrev pub IsReadyBlock : Chain → Block → Decision → Type 0
IsReadyBlock chain b (Joins joining) = MayBeKept chain b joining
IsReadyBlock chain b (Stays verdict) = joins verdict ≡ false

abbrev pub IsReadyItem : Chain → List ℕ → Decision → Type 0
IsReadyItem chain item (Joins joining) = (b : Block) × (decoded block item ≡ Some b) × MayBeKept chain b joining
IsReadyItem chain item (Stays verdict) = joins verdict ≡ false

-- and an item: it is such a block
abbrev pub MayWantMemory : Chain → List ℕ → Type 0
MayWantMemory chain item = (b : Block) × (decoded block item ≡ Some b) × WantsMemory chain b

-- A block that joins does so on this parent.
abbrev pub IsOnParent : ℕ → Decision → Type 0
IsOnParent parent (Joins joining) = joining.entry.parent ≡ parent
IsOnParent parent (Stays verdict) = Unit {0}

-- It breaks no rule, and its ext is its own.
pub record IsJudged (chain : Chain) (b : Block) (joining : Joining) : Type 0 where
  pub may : MayJoin chain.spec chain.blocks b
  pub on : may.parent ≡ joining.entry.parent
  pub ext : joining.ext ≡ ext_of chain.spec chain.blocks joining.entry.parent b

-- a block may join so, or this verdict is its own and it stays out
abbrev pub IsDecidedBlock : Chain → Block → Decision → Type 0
IsDecidedBlock chain b (Joins joining) = IsJudged chain b joining
IsDecidedBlock chain b (Stays verdict) = verdict ≡ verdict_of_block chain.spec chain.blocks b

-- an item too
abbrev pub IsDecided : Chain → List ℕ → Decision → Type 0
IsDecided chain item (Joins joining) = (b : Block) × (decoded block item ≡ Some b) × IsJudged chain b joining
IsDecided chain item (Stays verdict) = verdict ≡ verdict_over chain item

-- ---- Where the live cells stand

abbrev pub is_above : Option Block → Entry → Bool
is_above None entry = true
is_above (Some top) entry = nat_lt top.header.number entry.number

-- a block that joins becomes the tip where its number is above the tip's
abbrev pub becomes_tip : List Block → Decision → Bool
becomes_tip kept (Joins joining) = is_above (tip kept) joining.entry
becomes_tip kept (Stays verdict) = false

-- the place whose branch's live cells a block that joins goes on from
abbrev pub parent_of_joining : Decision → Option ℕ
parent_of_joining (Joins joining) = Some joining.entry.parent
parent_of_joining (Stays verdict) = None

-- once a decision is made: on its parent's branch where the block becomes the tip, and else on the tip's
abbrev pub place_for : List Block → Decision → Option ℕ
place_for kept decision = if becomes_tip kept decision then parent_of_joining decision else tip_place kept
