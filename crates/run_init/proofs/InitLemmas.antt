-- What `init` printed and left at each exit.
use Rattle.std.proofs.Common.{◌≡◌, inl, inr, ℕ, false, List, [], ◌∷◌, length, map, get_or, Vec, Global, refl, ap, sym, ◌∙◌, subst, arith}
use Rattle.std.specs.Prelude.{Option, Some, None, Result, Ok, IfSome, ◌==◌}
use Rattle.std.proofs.lemmas.Bool.Decides.{nat_tests}
use Rattle.std.proofs.lemmas.List.{length-map}
use Rattle.outside.specs.Image.{Image}
use Rattle.outside.specs.Disk.{Elapses, SameImages, IsAsBefore}
use Rattle.outside.proofs.Images.{as_before_started, as_before_goes_on}
use Rattle.disk_defs.specs.Log.{LogContent, log_of}
use Rattle.store_defs.specs.Store.{Store, NoLog, NotALog, Keeps, store_of, store_of_log, new_image}
use Rattle.report_defs.specs.declared.command.Command.TheVariants.{Init}
use Rattle.report_defs.specs.declared.status.Status.{Status}
use Rattle.report_defs.specs.declared.status.Status.TheVariants.{Done, InputFault, SinkFault, DiskFault, NoMemory, StoreThere, BadGenesis}
use Rattle.report_defs.specs.declared.end.End.{End}
use Rattle.report_defs.specs.Status.{IsOneOf}
use Rattle.report_defs.specs.Items.{Split, ReadsNoFurther}
use Rattle.report_defs.specs.Report.{Report, item_limit, genesis_limit, init_items, init_limits, report_of_rules, report_of_items, report_of_end, report_of_new, report_without_lines, IsReport}
use Rattle.report_defs.specs.Promise.{MatchesReport, ReadsWhole, IsStoreOf, ended_early, init_statuses}
use Rattle.report_defs.specs.Survival.{IsNewStore, as_before}
use Rattle.node_store.specs.Node.{IsNew}
use Rattle.run_text.specs.Items.{IsReadingStop}
use Rattle.run_text.specs.Whole.{IsWhole, EndsEarly, IsReadWhole}
use Rattle.run_text.specs.declared.whole.Whole.{Whole}
use Rattle.run_text.specs.declared.whole.Whole.TheVariants.{Items}
use Rattle.run_text.proofs.FurtherLemmas.{items_no_further}
use Rattle.run_text.proofs.WholeLemmas.{few_items}
use Rattle.run_text.specs.Store.{DeliversCommand}
use Rattle.run_text.specs.Output.{IsStop, MatchesReportOf, IsSaid, IsWrittenAnswer, early_ends}
use Rattle.run_init.specs.Init.{StandsAlone, new_statuses}
use Rattle.run_text.proofs.Limits.{item_limit-is}
use Rattle.run_text.proofs.StoreLemmas.{if_told, stop_says, by_function}
use Rattle.run_text.proofs.Tables.{held, lacks, among}
use Rattle.run_text.proofs.Statuses.{each_of, IsEarly}
use Rattle.run_text.proofs.WholeReports.{whole_report, whole_split, IsJudged, early_not_judged, whole_stopped, whole_early, whole_judged}

pub genesis_limit-is : genesis_limit ≡ 4194304
unfolding genesis_limit
genesis_limit-is = refl

-- the limits of the two items
pub known_limits : (left : Option (List ℕ)) (result : Result Whole Status) (given : List ℕ) → IsReadWhole (1048576 ∷ 4194304 ∷ []) 2 left result given
    → IsReadWhole init_items 2 left result given
known_limits left result given read =
    subst (λ (limits : List ℕ). IsReadWhole limits 2 left result given)
    (ap (λ (n : ℕ). n ∷ 4194304 ∷ []) (sym item_limit-is) ∙ ap (λ (n : ℕ). item_limit ∷ n ∷ []) (sym genesis_limit-is)) read

-- the items in two vectors
two_items : (vectors : List (Vec ℕ Global)) (one two : Vec ℕ Global) (first second : List ℕ) → length vectors ≡ 2
    → one ≡ get_or vectors 0 one → two ≡ get_or vectors 1 two → first ≡ one.items → second ≡ two.items
    → map (λ (v : Vec ℕ Global). v.items) vectors ≡ first ∷ second ∷ []
two_items [] one two first second count one_is two_is first_is second_is = absurd (omega (arith, count))
two_items (a ∷ []) one two first second count one_is two_is first_is second_is = absurd (omega (arith, count))
two_items (a ∷ b ∷ []) one two first second count one_is two_is first_is second_is =
    ap (λ (bytes : List ℕ). bytes ∷ b.items ∷ []) (sym (first_is ∙ ap (λ (v : Vec ℕ Global). v.items) one_is))
    ∙ ap (λ (bytes : List ℕ). first ∷ bytes ∷ []) (sym (second_is ∙ ap (λ (v : Vec ℕ Global). v.items) two_is))
two_items (a ∷ b ∷ c ∷ more) one two first second count one_is two_is first_is second_is = absurd (omega (arith, count))

-- a specification and a genesis were read
pub both_read : (left : Option (List ℕ)) (found : Whole) (vectors : Vec (Vec ℕ Global) Global) (given : List ℕ) (one two : Vec ℕ Global) (first second : List ℕ)
    → found ≡ Items vectors → IsReadWhole (1048576 ∷ 4194304 ∷ []) 2 left (Ok found) given
    → one ≡ get_or vectors.items 0 one → two ≡ get_or vectors.items 1 two → first ≡ one.items → second ≡ two.items
    → IsWhole init_items 2 left (first ∷ second ∷ []) given
both_read left found vectors given one two first second is read one_is two_is first_is second_is =
    let whole : IsWhole init_items 2 left (map (λ (v : Vec ℕ Global). v.items) vectors.items) given =
    subst (λ (w : Whole). IsReadWhole init_items 2 left (Ok w) given) is (known_limits left (Ok found) given read) in
    let same : length (map (λ (v : Vec ℕ Global). v.items) vectors.items) ≡ length vectors.items = length-map vectors.items (λ (v : Vec ℕ Global). v.items) in
    let count : length vectors.items ≡ 2 =
    omega (arith, same, whole.count, few_items init_items 0 (map (λ (v : Vec ℕ Global). v.items) vectors.items) whole.all (omega arith)) in
    subst (λ (items : List (List ℕ)). IsWhole init_items 2 left items given) (two_items vectors.items one two first second count one_is two_is first_is second_is) whole

-- ---- What the disk holds

no_log : (image : Image) → length image.log ≡ 0 → store_of image ≡ NoLog
unfolding store_of
no_log image none = rw none refl

not_none : (found : Option LogContent) → store_of_log found ≡ NoLog → ⊥
not_none None e = cc
not_none (Some log) e = cc

some_log : (image : Image) → (length image.log ≡ 0 → ⊥) → store_of image ≡ NoLog → ⊥
unfolding store_of
some_log image some e =
    let test : (length image.log == 0) ≡ false = grind (arith, nat_tests) in
    not_none (log_of image.log) (rw test at e)

pub finds_no_log : (reads : Option Image) (length_read : ℕ) (store : Store) → IfSome reads (λ image. length_read ≡ length image.log) → length_read ≡ 0 → IsStoreOf reads store → store ≡ NoLog
finds_no_log reads n store known none found =
    found.2 ∙ no_log found.0 (sym (if_told reads (λ image. n ≡ length image.log) found.0 known found.1) ∙ none)

pub finds_a_log : (reads : Option Image) (length_read : ℕ) (store : Store) → IfSome reads (λ image. length_read ≡ length image.log) → (length_read ≡ 0 → ⊥) → IsStoreOf reads store → store ≡ NoLog → ⊥
finds_a_log reads n store known some found e =
    some_log found.0 (λ none. some (if_told reads (λ image. n ≡ length image.log) found.0 known found.1 ∙ none)) (sym found.2 ∙ e)

module _ {D : Type 0} (reads_as : D → Option Image) (images : D → Image → Type 0) (moment : D → ℕ) (left_since : D → ℕ → Image → Type 0)
    (only_now : (disk : D) (image : Image) → left_since disk (moment disk) image → images disk image) where
  pub one_call : (old new : D) → reads_as new ≡ reads_as old → SameImages (images old) (images new)
      → Elapses (moment old) (moment new) (left_since old) (left_since new) (images new) → IsAsBefore reads_as images moment left_since old new
  one_call old new reads same time =
      as_before_goes_on reads_as images moment left_since old old new (as_before_started reads_as images moment left_since only_now old) reads same time

-- ---- Where nothing was read

-- the report of the whole input, where there is no log
abbrev pub full : List ℕ → Report
full whole = whole_report init_items 2 report_of_items whole

-- what is printed of it, and how far was read and written
abbrev pub Tells : Option (List ℕ) → List ℕ → List ℕ → Status → Type 0
Tells left given taken status = MatchesReportOf full given left taken status × ReadsWhole init_limits (Done ∷ BadGenesis ∷ []) given left taken status

unread : (left : Option (List ℕ)) (status : Status) → IsStop status → Tells left [] [] status
unread left status stop = whole_stopped init_items 2 report_of_items (Done ∷ BadGenesis ∷ []) (tt, (tt, tt)) left [] status stop (items_no_further init_limits [] tt tt [] refl)

pub fault_at_once : (reads : Option Image) (at_start at_exit meanwhile : Image → Type 0) (left : Option (List ℕ)) → DeliversCommand Init reads at_start at_exit meanwhile left [] [] DiskFault
fault_at_once reads at_start at_exit meanwhile left = record {
  text = λ store found. stop_says (λ whole said. IsReport (Some Init) whole store said) [] left DiskFault tt;
  order = λ store found. record {
    there = λ other. record { unread = refl; unwritten = refl };
    whole = (unread left DiskFault tt).1;
  };
  disk = λ now told done. absurd (cc);
}

there_text : (left : Option (List ℕ)) (store : Store) → (store ≡ NoLog → ⊥) → MatchesReport (λ whole said. IsReport (Some Init) whole store said) [] left [] StoreThere
there_text left NoLog other = absurd (other refl)
there_text left NotALog other = record { prefix = λ more is. inl refl; whole = λ more is told. (report_without_lines [] StoreThere, refl, refl, refl) }
there_text left (Keeps chain) other = record { prefix = λ more is. inl refl; whole = λ more is told. (report_without_lines [] StoreThere, refl, refl, refl) }

pub there_at_once : (reads : Option Image) (at_start at_exit meanwhile : Image → Type 0) (left : Option (List ℕ))
    → ((store : Store) → IsStoreOf reads store → store ≡ NoLog → ⊥) → DeliversCommand Init reads at_start at_exit meanwhile left [] [] StoreThere
there_at_once reads at_start at_exit meanwhile left other = record {
  text = λ store found. there_text left store (other store found);
  order = λ store found. record {
    there = λ _. record { unread = refl; unwritten = refl };
    whole = record {
      to_end = λ told. absurd (lacks (Done ∷ BadGenesis ∷ []) StoreThere refl StoreThere told refl);
      to_early_end = λ told. absurd (lacks ended_early StoreThere refl StoreThere told refl);
      no_further = items_no_further init_limits [] tt tt [] refl;
      silent = λ early. refl;
    };
  };
  disk = λ now told done. absurd (cc);
}

-- ---- Where there is no log

-- a command over no log
delivers_new : (reads : Option Image) (at_start at_exit meanwhile : Image → Type 0) (left : Option (List ℕ)) (given taken : List ℕ) (status : Status)
    → ((store : Store) → IsStoreOf reads store → store ≡ NoLog) → Tells left given taken status
    → ((now : Image) → reads ≡ Some now → status ≡ Done → IsNewStore given at_exit)
    → DeliversCommand Init reads at_start at_exit meanwhile left given taken status
delivers_new reads at_start at_exit meanwhile left given taken status none tells disk = record {
  text = λ store found. subst (λ (s : Store). MatchesReport (λ whole said. IsReport (Some Init) whole s said) given left taken status) (sym (none store found))
      (by_function full (λ whole said. IsReport (Some Init) whole NoLog said) given left taken status (λ whole. refl) tells.0);
  order = λ store found. record { there = λ other. absurd (other (none store found)); whole = tells.1 };
  disk = disk;
}

-- the reading was stopped
pub init_unread : (reads : Option Image) (at_start at_exit meanwhile : Image → Type 0) (left : Option (List ℕ)) (given : List ℕ) (status : Status)
    → ((store : Store) → IsStoreOf reads store → store ≡ NoLog) → IsStop status → ReadsNoFurther init_limits given
    → DeliversCommand Init reads at_start at_exit meanwhile left given [] status
init_unread reads at_start at_exit meanwhile left given status none stop no_further =
    delivers_new reads at_start at_exit meanwhile left given [] status none
    (whole_stopped init_items 2 report_of_items (Done ∷ BadGenesis ∷ []) (tt, (tt, tt)) left given status stop no_further)
    (λ now told done. absurd (subst IsStop done stop))

-- the input ends early
pub init_early : (reads : Option Image) (at_start at_exit meanwhile : Image → Type 0) (left : Option (List ℕ)) (given taken : List ℕ) (end : End) (offset : ℕ) (status : Status)
    → ((store : Store) → IsStoreOf reads store → store ≡ NoLog) → EndsEarly init_items 2 left end offset given → IsSaid (report_of_end offset end) status taken
    → DeliversCommand Init reads at_start at_exit meanwhile left given taken status
init_early reads at_start at_exit meanwhile left given taken end offset status none here said =
    delivers_new reads at_start at_exit meanwhile left given taken status none
    (whole_early init_items 2 report_of_items (Done ∷ BadGenesis ∷ []) (tt, (tt, tt)) left given taken end offset status here said)
    (λ now told done. absurd (early_not_judged end offset status taken here.early said (subst IsJudged (sym done) tt)))

-- what is said of a specification and a genesis
rules_no_stop : (genesis : List ℕ) (one two : Option ℕ) → IsEarly (report_of_rules genesis one two).status → ⊥
rules_no_stop genesis (Some rule) two stop = stop
rules_no_stop genesis None (Some rule) stop = stop
rules_no_stop genesis None None stop = stop

pub init_both : (reads : Option Image) (at_start at_exit meanwhile : Image → Type 0) (left : Option (List ℕ)) (given taken specification genesis : List ℕ) (status : Status)
    → ((store : Store) → IsStoreOf reads store → store ≡ NoLog) → IsWhole init_items 2 left (specification ∷ genesis ∷ []) given
    → IsSaid (report_of_new specification genesis) status taken
    → ((now : Image) → reads ≡ Some now → status ≡ Done → StandsAlone specification genesis at_exit)
    → DeliversCommand Init reads at_start at_exit meanwhile left given taken status
init_both reads at_start at_exit meanwhile left given taken specification genesis status none both said made =
    delivers_new reads at_start at_exit meanwhile left given taken status none
    (whole_judged init_items 2 report_of_items (Done ∷ BadGenesis ∷ []) (tt, (tt, tt)) left (specification ∷ genesis ∷ []) given taken status both said (rules_no_stop genesis _ _))
    (λ now told done.
    let alone = made now told done in
    record {
      specification = specification;
      genesis = genesis;
      items = ap (λ (s : Split). s.items) (whole_split init_items 2 left (specification ∷ genesis ∷ []) given both);
      only = alone.0;
      made = alone.3;
      one = alone.1;
      stands = alone.2;
    })

-- the store that was made, of the two items that were judged
pub alone_of : (specification genesis one two : List ℕ) (reads : Option Image) (images : Image → Type 0) → (one ≡ specification) × (two ≡ genesis) → IsNew one two reads images
    → StandsAlone specification genesis images
alone_of specification genesis one two reads images both new =
    subst (λ (s : List ℕ). StandsAlone s genesis images) both.0
    (subst (λ (g : List ℕ). StandsAlone one g images) both.1 (new_image one two, new.one, new.stands, refl))

-- ---- The statuses after which the disk is as before

abbrev IsNewStatus : Status → Type 0
IsNewStatus Done = Unit {0}
IsNewStatus SinkFault = Unit {0}
IsNewStatus DiskFault = Unit {0}
IsNewStatus NoMemory = Unit {0}
IsNewStatus BadGenesis = Unit {0}
IsNewStatus _ = ⊥

pub as_before_new : (status : Status) → IsOneOf new_statuses status → IsOneOf (as_before (Some Init)) status → status ≡ BadGenesis
as_before_new status one told =
    let is : IsNewStatus status = each_of IsNewStatus new_statuses status (tt, (tt, (tt, (tt, (tt, tt))))) one in
    each_of (λ s. IsNewStatus s → s ≡ BadGenesis) (as_before (Some Init)) status
    (λ n. absurd n, (λ n. absurd n, (λ n. absurd n, (λ n. absurd n, (λ n. refl, (λ n. absurd n, tt)))))) told is

-- ---- The statuses of `init`

pub init_reading : (status : Status) → IsReadingStop status → IsOneOf init_statuses status
init_reading InputFault stop = held init_statuses InputFault refl
init_reading NoMemory stop = held init_statuses NoMemory refl
init_reading _ stop = absurd stop

pub init_new : (status : Status) → IsOneOf new_statuses status → IsOneOf init_statuses status
init_new = among new_statuses init_statuses refl

pub init_ended : (status : Status) → IsOneOf early_ends status → IsOneOf init_statuses status
init_ended = among early_ends init_statuses refl

pub new_no_input_fault : (status : Status) → IsOneOf new_statuses status → status ≡ InputFault → ⊥
new_no_input_fault = lacks new_statuses InputFault refl

-- ---- What was printed of a store that was made, or of a rule that is broken

pub told_new : (text : List ℕ) (status result : Status) (taken : List ℕ) → IsOneOf (Done ∷ BadGenesis ∷ []) status → IsWrittenAnswer text status result taken
    → IsOneOf new_statuses result
told_new text status result taken one (inl told) =
    subst (λ (s : Status). IsOneOf new_statuses s) (sym told.1)
    (among (Done ∷ BadGenesis ∷ []) new_statuses refl status one)
told_new text status result taken one (inr failed) = inr (inl failed.1)

-- what was answered and is no fault of the sink was printed
pub told_as : (wanted : Status) (text : List ℕ) (status result : Status) (taken : List ℕ) → (SinkFault ≡ wanted → ⊥) → IsWrittenAnswer text status result taken
    → result ≡ wanted → status ≡ wanted
told_as wanted text status result taken other (inl told) same = sym told.1 ∙ same
told_as wanted text status result taken other (inr failed) same = absurd (other (sym failed.1 ∙ same))

pub told_no_disk_fault : (text : List ℕ) (status result : Status) (taken : List ℕ) → IsOneOf (Done ∷ BadGenesis ∷ []) status → IsWrittenAnswer text status result taken
    → result ≡ DiskFault → ⊥
told_no_disk_fault text status result taken one told same =
    lacks (Done ∷ BadGenesis ∷ []) DiskFault refl status one
    (told_as DiskFault text status result taken (λ e. cc) told same)

-- ---- What stops the making of a store

abbrev pub IsMakingStop : Status → Type 0
IsMakingStop DiskFault = Unit {0}
IsMakingStop NoMemory = Unit {0}
IsMakingStop _ = ⊥

pub making_stop : (status : Status) → IsOneOf (DiskFault ∷ NoMemory ∷ []) status → IsMakingStop status
making_stop status one = each_of IsMakingStop (DiskFault ∷ NoMemory ∷ []) status (tt, (tt, tt)) one

pub making_stopped : (status : Status) → IsOneOf (DiskFault ∷ NoMemory ∷ []) status → IsOneOf new_statuses status
making_stopped = among (DiskFault ∷ NoMemory ∷ []) new_statuses refl
