-- A session from its disk to the disk after its crash, and sessions one after the other.
use Rattle.std.proofs.Common.{◌≡◌, ℕ, ◌+◌, ◌-◌, ◌^◌, ◌<◌, ◌≤◌, min, List, [], ◌∷◌, ◌++◌, Vec, Global, map, length, take, get_or, refl, ap, sym, ◌∙◌, subst, arith}
use Rattle.std.specs.Prelude.{Option, Some, None, IfSome, IsSome}
use Rattle.std.proofs.lemmas.List.{map-append, take_more, take_all}
use Rattle.outside.specs.Causes.{CountsFault, up_to_last}
use Rattle.outside.specs.Image.{Image}
use Rattle.outside.specs.Disk.{SameImages, HasOneImage, IsKnownAsBefore}
use Rattle.crashing.specs.declared.armed.Armed.{Armed}
use Rattle.crashing.specs.Arming.{armed_faults}
use Rattle.verdict_defs.specs.Chain.{Chain, chain_over}
use Rattle.node_store.specs.Node.{IsOnlyImage}
use Rattle.node_store.specs.OpeningSteps.{moves_to_open}
use Rattle.node_store.specs.Steps.{steps_over}
use Rattle.made_chain.specs.declared.plan.Session.{Session}
use Rattle.made_chain.specs.declared.outcome.End.{End}
use Rattle.made_chain.specs.declared.outcome.End.TheVariants.{Whole, DiskFault, NoMemory}
use Rattle.made_chain.specs.Sessions.{items_in, items_of, HasSoundImage, IsKeptCount, KeepsPrefix, IsEndOf, IsSession, Outcome, AreSessions, IsKeptAfter, fault_ends}
use Rattle.made_chain.proofs.ItemLemmas.{as_many}

-- ---- The disk around a session

-- an armed disk is the same store
pub only_armed : (chain : Chain) (reads_old reads_new : Option Image) (old new : Image → Type 0) → reads_new ≡ reads_old → SameImages old new
    → IsOnlyImage chain reads_old old → IsOnlyImage chain reads_new new
only_armed chain reads_old reads_new old new reads same only = record {
  now = only.now;
  told = reads ∙ only.told;
  one = λ image left. only.one image ((same image).0 left);
  stands = only.stands;
}

pub same_count : {D : Type 0} (faults : D → ℕ) (old new : Armed D) → new.disk ≡ old.disk → new.refused ≡ old.refused → armed_faults faults new ≡ armed_faults faults old
same_count faults old new disk refused = ap (λ n. up_to_last (n + new.refused)) (ap faults disk) ∙ ap (λ n. up_to_last (faults old.disk + n)) refused

told_image : (reads : Option Image) → IsSome reads → (now : Image) × (reads ≡ Some now)
told_image None told = absurd (cc)
told_image (Some now) told = (now, refl)

among_those : (reads : Option Image) (some all : Image → Type 0) → ((image : Image) → some image → all image) → IfSome reads some → IfSome reads all
among_those None some all of here = tt
among_those (Some now) some all of here = of now here

-- what a crash takes of images that each keep a prefix
pub only_crashed : (chain : Chain) (items : List (List ℕ)) (acked : ℕ) (reads_old reads_new : Option Image) (old new : Image → Type 0) → IsSome reads_old
    → IsKnownAsBefore reads_old reads_new → IfSome reads_new old → HasOneImage reads_new new → ((image : Image) → old image → KeepsPrefix chain items acked image)
    → (count : ℕ) × IsKeptCount (length items) acked count × IsOnlyImage (chain_over chain (take count items)) reads_new new
only_crashed chain items acked reads_old reads_new old new told same among one keeps =
    let now = told_image reads_new (same ∙ told) in
    let here : old now.0 = subst (λ (r : Option Image). IfSome r old) now.1 among in
    let kept = keeps now.0 here in (
      kept.0,
      kept.1,
      record {
        now = now.0;
        told = now.1;
        one = subst (λ (r : Option Image). HasOneImage r new) now.1 one;
        stands = kept.2;
      },
    )

-- ---- Sessions one after the other

-- a count as far as it goes
none_counted : (last old new : ℕ) → new ≡ old → min (old + 0) last ≤ new
none_counted last old new same = omega (arith, same)

one_capped : (last old between more all new : ℕ) → all ≡ 1 + more → min (old + 1) last ≤ between → min (between + more) last ≤ new → min (old + all) last ≤ new
one_capped last old between more all new one first others = omega (arith, one, first, others)

one_counted : (end : End) (ends : List End) (old between new : ℕ) → CountsFault old between (end ≡ DiskFault) → up_to_last (between + fault_ends ends) ≤ new
    → up_to_last (old + fault_ends (end ∷ ends)) ≤ new
one_counted Whole ends old between new counts others =
    subst (λ n. up_to_last (n + fault_ends ends) ≤ new) (counts.unchanged (λ same. absurd (cc))) others
one_counted DiskFault ends old between new counts others =
    let one : fault_ends (DiskFault ∷ ends) ≡ 1 + fault_ends ends = omega arith in
    one_capped (2 ^ 64 - 1) old between (fault_ends ends) (fault_ends (DiskFault ∷ ends)) new one (counts.rose refl) others
one_counted NoMemory ends old between new counts others =
    subst (λ n. up_to_last (n + fault_ends ends) ≤ new) (counts.unchanged (λ same. absurd (cc))) others

module _ {D C : Type 0} (content_of : D → C) (reads_as : D → Option Image) (images : D → Image → Type 0) (faults : D → ℕ) (picks : D → ℕ → Image → Type 0) where
  abbrev Is : Session → ℕ → End → Armed D → Armed D → ℕ → ℕ → Type 0
  Is = IsSession content_of reads_as images faults picks

  abbrev Are : List Session → List Outcome → Armed D → Armed D → ℕ → ℕ → Type 0
  Are = AreSessions content_of reads_as images faults picks

  -- a session by its three calls
  pub session_made : (session : Session) (items : List (Vec ℕ Global)) (acked : ℕ) (end : End) (old ready mid new : Armed D) (before after : ℕ) → items ≡ session.items.items
      → content_of ready.disk ≡ content_of old.disk → ready.pass ≡ session.pass → reads_as ready.disk ≡ reads_as old.disk → SameImages (images old.disk) (images ready.disk) → armed_faults faults ready ≡ armed_faults faults old
      → IsSome (reads_as mid.disk)
      → ((chain : Chain) → IsOnlyImage chain (reads_as ready.disk) (images ready.disk) → (image : Image) → images mid.disk image → KeepsPrefix chain (items_in items) acked image)
      → IsEndOf (length items) acked end → CountsFault (armed_faults faults ready) (armed_faults faults mid) (end ≡ DiskFault)
      → ((chain : Chain) (only : IsOnlyImage chain (reads_as ready.disk) (images ready.disk)) → end ≡ Whole → before + moves_to_open only.now ≤ after)
      → ((chain : Chain) (only : IsOnlyImage chain (reads_as ready.disk) (images ready.disk)) → after ≤ before + moves_to_open only.now + steps_over chain (items_in items))
      → ((disk : D) (pick : ℕ) (image : Image) → picks disk pick image → images disk image)
      → IfSome (reads_as new.disk) (picks mid.disk session.pick) → HasOneImage (reads_as new.disk) (images new.disk) → IsKnownAsBefore (reads_as mid.disk) (reads_as new.disk) → new.pass ≡ None
      → armed_faults faults new ≡ armed_faults faults mid → Is session acked end old new before after
  unfolding only_armed
  session_made session items acked end old ready mid new before after same content ready_for reads rest unarmed told keeps ended counts opened most picks_images picked one tells disarmed uncounted = record {
    stopped = record {
      ready = ready;
      arming = record { content = content; armed_for = ready_for; uncounted = unarmed };
      exit = mid;
      imported = record {
        kept = λ chain only image left. subst (λ (l : List (Vec ℕ Global)). KeepsPrefix chain (items_in l) acked image) same (keeps chain only image left);
        fault = counts;
      };
      crashed = record { picked = picked; one_image = one; told = tells; disarmed = disarmed; uncounted = uncounted };
    };
    kept = λ chain only. only_crashed chain (items_of session) acked (reads_as mid.disk) (reads_as new.disk) (images mid.disk) (images new.disk) told tells among one (λ image left.
        subst (λ (l : List (Vec ℕ Global)). KeepsPrefix chain (items_in l) acked image) same (keeps chain (at_start chain only) image left));
    ended = subst (λ (n : ℕ). IsEndOf n acked end) (ap (λ (l : List (Vec ℕ Global)). length l) same ∙ sym (as_many session.items.items)) ended;
    fault = subst (λ (n : ℕ). CountsFault (armed_faults faults old) n (end ≡ DiskFault)) (sym uncounted)
        (subst (λ (n : ℕ). CountsFault n (armed_faults faults mid) (end ≡ DiskFault)) unarmed counts);
    opened = λ chain only whole. opened chain (at_start chain only) whole;
    disarmed = disarmed;
    steps = λ chain only. subst (λ (l : List (Vec ℕ Global)). after ≤ before + moves_to_open only.now + steps_over chain (items_in l)) same (most chain (at_start chain only));
  }
    where
      among : IfSome (reads_as new.disk) (images mid.disk)
      among = among_those (reads_as new.disk) (picks mid.disk session.pick) (images mid.disk) (picks_images mid.disk session.pick) picked

      at_start : (chain : Chain) → IsOnlyImage chain (reads_as old.disk) (images old.disk) → IsOnlyImage chain (reads_as ready.disk) (images ready.disk)
      at_start chain only = only_armed chain (reads_as old.disk) (reads_as ready.disk) (images old.disk) (images ready.disk) reads rest only

  -- one session more
  pub one_after : (sessions : List Session) (outcomes : List Outcome) (session : Session) (outcome : Outcome) (old between new : Armed D) (before then after : ℕ)
      → Are sessions outcomes old between before then → Is session outcome.acked outcome.end between new then after
      → Are (sessions ++ session ∷ []) (outcomes ++ outcome ∷ []) old new before after
  one_after [] [] session outcome old between new before then after (same, stood) is = (
    new,
    after,
    subst (λ (n : ℕ). Is session outcome.acked outcome.end old new n after) stood
        (subst (λ (d : Armed D). Is session outcome.acked outcome.end d new then after) same is),
    (refl, refl),
  )
  one_after (first ∷ sessions) (one ∷ outcomes) session outcome old between new before then after (next, at, was, rest) is =
      (next, at, was, one_after sessions outcomes session outcome next between new at then after rest is)
  one_after [] (one ∷ outcomes) session outcome old between new before then after never is = absurd never
  one_after (first ∷ sessions) [] session outcome old between new before then after never is = absurd never

  -- there is one image after them, and it is sound
  pub kept_after : (sessions : List Session) (outcomes : List Outcome) (old new : Armed D) (before after : ℕ) → Are sessions outcomes old new before after
      → (chain : Chain) → IsOnlyImage chain (reads_as old.disk) (images old.disk)
      → (kept : Chain) × IsKeptAfter chain (map items_of sessions) (map (λ (outcome : Outcome). outcome.acked) outcomes) kept
      × IsOnlyImage kept (reads_as new.disk) (images new.disk)
  kept_after [] [] old new before after (same, stood) chain only =
      (chain, refl, subst (λ (d : Armed D). IsOnlyImage chain (reads_as d.disk) (images d.disk)) (sym same) only)
  kept_after (session ∷ sessions) (outcome ∷ outcomes) old new before after (between, then, is, rest) chain only =
      let one = is.kept chain only in
      let others = kept_after sessions outcomes between new then after rest (chain_over chain (take one.0 (items_of session))) one.2 in
      (others.0, (one.0, one.1, others.1), others.2)
  kept_after [] (outcome ∷ outcomes) old new before after never chain only = absurd never
  kept_after (session ∷ sessions) [] old new before after never chain only = absurd never

  pub sound_after : (sessions : List Session) (outcomes : List Outcome) (old new : Armed D) (before after : ℕ) → Are sessions outcomes old new before after
      → HasSoundImage (reads_as old.disk) (images old.disk) → HasSoundImage (reads_as new.disk) (images new.disk)
  sound_after sessions outcomes old new before after are sound =
      let kept = kept_after sessions outcomes old new before after are sound.0 sound.1 in (kept.0, kept.2)

  -- each fault that ended a session was counted
  pub faults_after : (sessions : List Session) (outcomes : List Outcome) (old new : Armed D) (before after : ℕ) → Are sessions outcomes old new before after
      → up_to_last (armed_faults faults old + fault_ends (map (λ (outcome : Outcome). outcome.end) outcomes)) ≤ armed_faults faults new
  faults_after [] [] old new before after (same, stood) =
      none_counted (2 ^ 64 - 1) (armed_faults faults old) (armed_faults faults new) (ap (armed_faults faults) same)
  faults_after (session ∷ sessions) (outcome ∷ outcomes) old new before after (between, then, is, rest) =
      one_counted outcome.end (map (λ (outcome : Outcome). outcome.end) outcomes) (armed_faults faults old) (armed_faults faults between) (armed_faults faults new) is.fault
      (faults_after sessions outcomes between new then after rest)
  faults_after [] (outcome ∷ outcomes) old new before after never = absurd never
  faults_after (session ∷ sessions) [] old new before after never = absurd never

  -- one session more of a list
  pub next_session : (sessions : List Session) (i : ℕ) (session : Session) (outcomes : List Outcome) (outcome : Outcome) (old between new : Armed D) (before then after : ℕ)
      → i < length sessions → session ≡ get_or sessions i session → Are (take i sessions) outcomes old between before then
      → Is session outcome.acked outcome.end between new then after → Are (take (i + 1) sessions) (outcomes ++ outcome ∷ []) old new before after
  next_session sessions i session outcomes outcome old between new before then after within at are is =
      subst (λ (l : List Session). Are l (outcomes ++ outcome ∷ []) old new before after)
      (sym (take_more sessions i session within ∙ ap (λ (s : Session). take i sessions ++ s ∷ []) (sym at)))
      (one_after (take i sessions) outcomes session outcome old between new before then after are is)

  pub all_sessions : (sessions : List Session) (i : ℕ) (outcomes : List Outcome) (old new : Armed D) (before after : ℕ) → length sessions ≤ i
      → Are (take i sessions) outcomes old new before after → Are sessions outcomes old new before after
  all_sessions sessions i outcomes old new before after past are =
      subst (λ (l : List Session). Are l outcomes old new before after) (take_all i sessions past) are

-- the entries of one session more
pub acked_more : (outcomes : List Outcome) (outcome : Outcome) (acked more : List ℕ) → more ≡ acked ++ outcome.acked ∷ []
    → acked ≡ map (λ (it : Outcome). it.acked) outcomes → more ≡ map (λ (it : Outcome). it.acked) (outcomes ++ outcome ∷ [])
acked_more outcomes outcome acked more pushed are =
    pushed ∙ ap (λ (l : List ℕ). l ++ outcome.acked ∷ []) are ∙ sym (map-append (λ (it : Outcome). it.acked) outcomes (outcome ∷ []))

pub ends_more : (outcomes : List Outcome) (outcome : Outcome) (ends more : List End) → more ≡ ends ++ outcome.end ∷ []
    → ends ≡ map (λ (it : Outcome). it.end) outcomes → more ≡ map (λ (it : Outcome). it.end) (outcomes ++ outcome ∷ [])
ends_more outcomes outcome ends more pushed are =
    pushed ∙ ap (λ (l : List End). l ++ outcome.end ∷ []) are ∙ sym (map-append (λ (it : Outcome). it.end) outcomes (outcome ∷ []))
