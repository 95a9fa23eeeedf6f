-- What a session leaves of a store, and what sessions leave that follow one another (crates/made_chain/README.md, "Sessions").
use Rattle.std.specs.Prelude.{◌≡◌, Bool, true, false, ℕ, ◌+◌, ◌<◌, ◌≤◌, ◌^◌, List, [], ◌∷◌, All, map, length, take, Option, None, IfSome}
use Rattle.std.specs.List.{filter}
use Rattle.std.specs.declared.alloc.Global.{Global}
use Rattle.std.specs.declared.vec.Vec.{Vec}
use Rattle.outside.specs.Causes.{CountsFault}
use Rattle.outside.specs.Image.{Image}
use Rattle.outside.specs.Disk.{HasOneImage, IsKnownAsBefore}
use Rattle.crashing.specs.declared.armed.Armed.{Armed}
use Rattle.crashing.specs.Arming.{armed_faults}
use Rattle.verdict_defs.specs.Chain.{Chain, chain_over}
use Rattle.store_defs.specs.Store.{StandsFor}
use Rattle.node_store.specs.Node.{IsOnlyImage}
use Rattle.node_store.specs.OpeningSteps.{moves_to_open}
use Rattle.node_store.specs.Steps.{steps_over}
use Rattle.made_chain.specs.declared.plan.Session.{Session}
use Rattle.made_chain.specs.declared.outcome.End.{End}
use Rattle.made_chain.specs.declared.outcome.End.TheVariants.{Whole, DiskFault, NoMemory}

-- ---- Sessions and their conditions

-- items as bytes
abbrev pub items_in : List (Vec ℕ Global) → List (List ℕ)
items_in items = map (λ (bytes : Vec ℕ Global). bytes.items) items

abbrev pub items_of : Session → List (List ℕ)
items_of session = items_in session.items.items

-- each is below the size that a node takes
abbrev pub AreShort : List (Vec ℕ Global) → Type 0
AreShort items = All (λ (bytes : Vec ℕ Global). length bytes.items < 2 ^ 31) items

abbrev pub IsShort : Session → Type 0
IsShort session = AreShort session.items.items

-- The disk has one image, and that is sound.
abbrev pub HasSoundImage : Option Image → (Image → Type 0) → Type 0
HasSoundImage reads images = (chain : Chain) × IsOnlyImage chain reads images

-- ---- One session

-- How many items may be kept, of a session where so many got a verdict: those, or one more, and at most all.
pub record IsKeptCount (size acked count : ℕ) : Type 0 where
  pub acknowledged : acked ≤ count
  pub one_more : count ≤ acked + 1
  pub most : count ≤ size

-- an image stands for what joined of so many first items
abbrev pub KeepsPrefix : Chain → List (List ℕ) → ℕ → Image → Type 0
KeepsPrefix chain items acked image = (count : ℕ) × IsKeptCount (length items) acked count × StandsFor (chain_over chain (take count items)) image

-- How a session ends where so many of its items got a verdict: whole where the store was opened and all of them did.
pub record IsEndOf (size acked : ℕ) (end : End) : Type 0 where
  pub most : acked ≤ size
  pub whole : end ≡ Whole → acked ≡ size
  pub all : acked ≡ size → 0 < size → end ≡ Whole

-- what the disks below armed ones tell, and which images they have for each choice of a crash
module _ {D C : Type 0} (content_of : D → C) (reads_as : D → Option Image) (images : D → Image → Type 0) (faults : D → ℕ) (picks : D → ℕ → Image → Type 0) where
  -- A disk was armed for so many calls, and is else as before.
  pub record IsArmed (pass : Option ℕ) (old new : Armed D) : Type 0 where
    pub content : content_of new.disk ≡ content_of old.disk
    pub armed_for : new.pass ≡ pass
    pub uncounted : armed_faults faults new ≡ armed_faults faults old

  -- A disk crashed by this choice: it has one image, which is one of those that it had for it.
  pub record IsCrashed (pick : ℕ) (old new : Armed D) : Type 0 where
    pub picked : IfSome (reads_as new.disk) (picks old.disk pick)
    pub one_image : HasOneImage (reads_as new.disk) (images new.disk)
    pub told : IsKnownAsBefore (reads_as old.disk) (reads_as new.disk)
    pub disarmed : new.pass ≡ None
    pub uncounted : armed_faults faults new ≡ armed_faults faults old

  -- What came of the items of a session, between the arming and the crash: each image that is left keeps a prefix of them.
  pub record HasImported (items : List (List ℕ)) (acked : ℕ) (end : End) (old new : Armed D) : Type 0 where
    pub kept : (chain : Chain) → IsOnlyImage chain (reads_as old.disk) (images old.disk)
        → (image : Image) → images new.disk image → KeepsPrefix chain items acked image
    pub fault : CountsFault (armed_faults faults old) (armed_faults faults new) (end ≡ DiskFault)

  -- The disk was armed as the session says, its items were imported, and the disk crashed by its choice.
  pub record IsStoppedSo (session : Session) (acked : ℕ) (end : End) (old new : Armed D) : Type 0 where
    pub ready : Armed D
    pub arming : IsArmed session.pass old ready
    pub exit : Armed D
    pub imported : HasImported (items_of session) acked end ready exit
    pub crashed : IsCrashed session.pick exit new

  -- A session over the disk before it and after it, where the steps stood at these numbers: so many items got a verdict, and so it ended.
  pub record IsSession (session : Session) (acked : ℕ) (end : End) (old new : Armed D) (before after : ℕ) : Type 0 where
    pub stopped : IsStoppedSo session acked end old new
    -- over the chain that the one image stood for, there is one image again, and it stands for what joined of so many first items
    pub kept : (chain : Chain) → IsOnlyImage chain (reads_as old.disk) (images old.disk)
        → (count : ℕ) × IsKeptCount (length (items_of session)) acked count
        × IsOnlyImage (chain_over chain (take count (items_of session))) (reads_as new.disk) (images new.disk)
    pub ended : IsEndOf (length (items_of session)) acked end
    -- whole only after the steps of opening the store, also without items
    pub opened : (chain : Chain) (only : IsOnlyImage chain (reads_as old.disk) (images old.disk)) → end ≡ Whole → before + moves_to_open only.now ≤ after
    -- it ends by a fault just where the count of faults rose
    pub fault : CountsFault (armed_faults faults old) (armed_faults faults new) (end ≡ DiskFault)
    pub disarmed : new.pass ≡ None
    -- those to open the store, and those for each item over what is kept by then
    pub steps : (chain : Chain) (only : IsOnlyImage chain (reads_as old.disk) (images old.disk))
        → after ≤ before + moves_to_open only.now + steps_over chain (items_of session)

-- ---- Sessions one after the other

-- what came of a session
pub record Outcome : Type 0 where
  pub acked : ℕ
  pub end : End

module _ {D C : Type 0} (content_of : D → C) (reads_as : D → Option Image) (images : D → Image → Type 0) (faults : D → ℕ) (picks : D → ℕ → Image → Type 0) where
  -- Each is over the disk that the one before it left.
  abbrev pub AreSessions : List Session → List Outcome → Armed D → Armed D → ℕ → ℕ → Type 0
  AreSessions [] [] old new before after = (new ≡ old) × (after ≡ before)
  AreSessions (session ∷ sessions) (outcome ∷ outcomes) old new before after = (between : Armed D) × (then : ℕ)
      × IsSession content_of reads_as images faults picks session outcome.acked outcome.end old between before then × AreSessions sessions outcomes between new then after
  AreSessions _ _ old new before after = ⊥

  -- Of each session there are one count of verdicts and one end, in order.
  pub record ArePlayed (sessions : List Session) (acked : List ℕ) (ends : List End) (old new : Armed D) (before after : ℕ) : Type 0 where
    pub outcomes : List Outcome
    pub acked_are : acked ≡ map (λ (outcome : Outcome). outcome.acked) outcomes
    pub ends_are : ends ≡ map (λ (outcome : Outcome). outcome.end) outcomes
    pub are : AreSessions sessions outcomes old new before after

-- A chain after sessions, by the items of each and how many of them got a verdict: what joined of so many first items of each.
abbrev pub IsKeptAfter : Chain → List (List (List ℕ)) → List ℕ → Chain → Type 0
IsKeptAfter chain [] [] kept = kept ≡ chain
IsKeptAfter chain (items ∷ later) (acked ∷ others) kept = (count : ℕ) × IsKeptCount (length items) acked count
    × IsKeptAfter (chain_over chain (take count items)) later others kept
IsKeptAfter chain _ _ kept = ⊥

-- how many of the ends are faults of the disk
abbrev pub is_fault : End → Bool
is_fault Whole = false
is_fault DiskFault = true
is_fault NoMemory = false

abbrev pub fault_ends : List End → ℕ
fault_ends ends = length (filter is_fault ends)
