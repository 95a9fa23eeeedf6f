-- Items imported one after the other.
use Rattle.std.proofs.Common.{◌≡◌, ◌⊎◌, inl, inr, ℕ, ◌+◌, ◌≤◌, Bool, true, false, ◌||◌, List, [], ◌∷◌, ◌++◌, length, refl, ap, sym, ◌∙◌, subst, arith, append-nil, length-append}
use Rattle.std.specs.Prelude.{Option, Some, Result, Ok, Err}
use Rattle.std.specs.List.{concat, list_any}
use Rattle.std.proofs.lemmas.List.{take-append-le}
use Rattle.std.proofs.lemmas.List.Folds.{list_any-append}
use Rattle.outside.specs.Image.{Image}
use Rattle.outside.specs.Disk.{LeavesOnly}
use Rattle.outside.specs.Streams.{Gives, Takes}
use Rattle.outside.proofs.Streams.{gives_none, takes_none, gives_more, takes_more}
use Rattle.outside.proofs.Moments.{started, leaves_also, leaves_then, now_too}
use Rattle.verdict_defs.specs.declared.verdict.Verdict.{Verdict}
use Rattle.verdict_defs.specs.Verdict as rules
use Rattle.verdict_defs.specs.Chain.{Chain, chain_after, verdict_over, chain_over, verdicts_over}
use Rattle.chain_defs.proofs.FoldLemmas.{keep-push, verdicts-push}
use Rattle.store_defs.specs.Store.{StandsFor}
use Rattle.report_defs.specs.declared.status.Status.{Status}
use Rattle.report_defs.specs.declared.status.Status.TheVariants.{InputFault, SinkFault, DiskFault, NoMemory}
use Rattle.report_defs.specs.Status.{IsOneOf}
use Rattle.report_defs.specs.Text.{line}
use Rattle.report_defs.specs.Items.{IsItem, AreItems}
use Rattle.report_defs.proofs.ItemLemmas.{all_items-append}
use Rattle.report_defs.specs.Report.{item_limit, input_limit, import_limits, line_over}
use Rattle.report_defs.specs.Promise.{import_statuses}
use Rattle.report_defs.specs.Survival.{Each}
use Rattle.run_text.specs.Items.{IsPartial, IsItemAt, EndsAt, IsReadingStop, IsNext}
use Rattle.run_text.specs.declared.next.Next.{Next}
use Rattle.run_text.proofs.Reading.{few_partial}
use Rattle.node_store.specs.Node.{NodeValue, StandsOnDisk}
use Rattle.node_store.specs.Steps.{moves_for, steps_over}
use Rattle.run_text.specs.Output.{Transfers, IsPartOf, IsWritten, IsWritingStop, text_over}
use Rattle.run_import.specs.Import.{AreImported, IsAnswered, IsCutShort, KeepsSome, item_stops}
use Rattle.run_text.specs.Store.{opening_stops}
use Rattle.run_import.specs.declared.importing.Ended.{Ended}
use Rattle.run_import.proofs.LineLemmas.{concat-push, lines-push, take_all}
use Rattle.run_text.proofs.LineLemmas.{line_some, line_over-some}
use Rattle.run_text.proofs.Tables.{held, lacks, among}
use Rattle.run_text.proofs.Statuses.{not_early, reading_stops, writing_stops, disk_stops}

pub input_limit-is : input_limit ≡ 1099511627776
unfolding input_limit
input_limit-is = refl

-- Whole items were imported, and nothing of a next one was read. Where the node was sound they are answered by their lines. Where the
-- node was on its disk it is so now, and at each moment a crash left what joined of some of them.
pub record Whole (watched : Option (List ℕ)) (chain : Chain) (offset : ℕ) (left_old left_new taken_old taken_new : Option (List ℕ)) (now : Chain) (refused : Bool)
    (were_sound are_sound was_on is_on : Type 0) (leaves : (Image → Type 0) → Type 0) (steps_old steps_now : ℕ) : Type 0 where
  pub items : List (List ℕ)
  pub taken : List ℕ
  pub gives : Gives left_old left_new (concat items)
  pub takes : Takes taken_old taken_new taken
  pub all : AreItems import_limits 0 items
  pub place : offset ≡ length (concat items)
  pub within : offset ≤ input_limit
  pub sound : were_sound → are_sound
  pub lines : were_sound → taken ≡ text_over watched chain items
  pub kept_now : were_sound → now ≡ chain_over chain items
  pub any_refused : were_sound → refused ≡ list_any rules.refuses (verdicts_over chain items)
  pub on : was_on → is_on
  pub moments : was_on → leaves (KeepsSome chain items)
  pub steps : were_sound → steps_now ≤ steps_old + steps_over chain items

-- nothing was imported yet
abbrev pub whole_none : (watched : Option (List ℕ)) (chain : Chain) (left taken : Option (List ℕ)) (were_sound are_sound was_on : Type 0) (leaves : (Image → Type 0) → Type 0)
    (steps : ℕ) → (were_sound → are_sound) → (was_on → leaves (KeepsSome chain []))
    → Whole watched chain 0 left left taken taken chain false were_sound are_sound was_on was_on leaves steps steps
whole_none watched chain left taken were_sound are_sound was_on leaves steps sound moments = record {
  items = [];
  taken = [];
  gives = gives_none left;
  takes = takes_none taken;
  all = tt;
  place = refl;
  within = omega (arith, input_limit-is);
  sound = sound;
  lines = λ is. refl;
  kept_now = λ is. refl;
  any_refused = λ is. refl;
  on = λ on. on;
  moments = moments;
  steps = λ is. omega arith;
}

-- ---- What a crash leaves

pub keeps_all : (chain : Chain) (items : List (List ℕ)) (image : Image) → StandsFor (chain_over chain items) image → KeepsSome chain items image
keeps_all chain items image stands = (length items, omega arith, subst (λ xs. StandsFor (chain_over chain xs) image) (sym (take_all items)) stands)

pub keeps_more : (chain : Chain) (items : List (List ℕ)) (item : List ℕ) (image : Image) → KeepsSome chain items image → KeepsSome chain (items ++ item ∷ []) image
keeps_more chain items item image some = (
  some.0,
  omega (arith, some.1, length-append items (item ∷ [])),
  subst (λ xs. StandsFor (chain_over chain xs) image) (sym (take-append-le some.0 items (item ∷ []) some.1)) some.2,
)

-- of an item over those before it
pub keeps_item : (chain now : Chain) (items : List (List ℕ)) (item : List ℕ) (image : Image) → now ≡ chain_over chain items
    → StandsFor now image ⊎ StandsFor (chain_after now item) image → StandsFor (chain_over chain items) image ⊎ StandsFor (chain_over chain (items ++ item ∷ [])) image
keeps_item chain now items item image is (inl old) = inl (subst (λ (k : Chain). StandsFor k image) is old)
keeps_item chain now items item image is (inr new) =
    inr (subst (λ (k : Chain). StandsFor k image) (ap (λ (k : Chain). chain_after k item) is ∙ sym (keep-push chain_after chain items item)) new)

pub keeps_either : (chain : Chain) (items : List (List ℕ)) (item : List ℕ) (image : Image)
    → StandsFor (chain_over chain items) image ⊎ StandsFor (chain_over chain (items ++ item ∷ [])) image → KeepsSome chain (items ++ item ∷ []) image
keeps_either chain items item image (inl old) = keeps_more chain items item image (keeps_all chain items image old)
keeps_either chain items item image (inr new) = keeps_all chain (items ++ item ∷ []) image new

-- each image of a disk that a node is on
pub on_stands : (node : NodeValue) (chain : Chain) (reads : Option Image) (images : Image → Type 0) → node.chain ≡ chain → StandsOnDisk node reads images
    → (image : Image) → images image → StandsFor chain image
on_stands node chain reads images is on image left =
    subst (λ (k : Chain). StandsFor k image) is (subst (λ (i : Image). StandsFor node.chain i) (sym (on.image.one image left)) on.image.stands)

module _ {D : Type 0} (images : D → Image → Type 0) (moment : D → ℕ) (left_since : D → ℕ → Image → Type 0)
    (counts_now : (disk : D) (t : ℕ) (image : Image) → t ≤ moment disk → images disk image → left_since disk t image) where
  -- the moments of one item more
  pub leaves_item : (old mid new : D) (chain now : Chain) (items : List (List ℕ)) (item : List ℕ) → now ≡ chain_over chain items
      → LeavesOnly moment left_since old mid (KeepsSome chain items)
      → LeavesOnly moment left_since mid new (λ image. StandsFor now image ⊎ StandsFor (chain_after now item) image)
      → LeavesOnly moment left_since old new (KeepsSome chain (items ++ item ∷ []))
  leaves_item old mid new chain now items item is first second =
      leaves_then moment left_since old mid new (KeepsSome chain (items ++ item ∷ []))
      (leaves_also moment left_since old mid (KeepsSome chain items) (KeepsSome chain (items ++ item ∷ [])) first (keeps_more chain items item))
      (leaves_also moment left_since mid new (λ image. StandsFor now image ⊎ StandsFor (chain_after now item) image) (KeepsSome chain (items ++ item ∷ [])) second
      (λ image either. keeps_either chain items item image (keeps_item chain now items item image is either)))

  -- the images after it
  pub exit_of_item : (mid new : D) (chain now : Chain) (items : List (List ℕ)) (item : List ℕ) → now ≡ chain_over chain items
      → LeavesOnly moment left_since mid new (λ image. StandsFor now image ⊎ StandsFor (chain_after now item) image)
      → Each (images new) (λ image. StandsFor (chain_over chain items) image ⊎ StandsFor (chain_over chain (items ++ item ∷ [])) image)
  exit_of_item mid new chain now items item is second = λ image left.
      keeps_item chain now items item image is
      (now_too moment left_since images counts_now mid new (λ image. StandsFor now image ⊎ StandsFor (chain_after now item) image) second image left)

  -- before the first item
  pub leaves_none : ((disk : D) (image : Image) → left_since disk (moment disk) image → images disk image) → (disk : D) (node : NodeValue) (reads : Option Image)
      → StandsOnDisk node reads (images disk) → LeavesOnly moment left_since disk disk (KeepsSome node.chain [])
  leaves_none only_now disk node reads on =
      started moment left_since disk (KeepsSome node.chain [])
      (λ image left. keeps_all node.chain [] image (on_stands node node.chain reads (images disk) refl on image (only_now disk image left)))

-- ---- One item

pub known_limits : (most all : ℕ) → most ≡ item_limit → all ≡ input_limit → (offset : ℕ) (left : Option (List ℕ)) (result : Result Next Status) (given : List ℕ)
    → IsNext most (Some all) offset left result given → IsNext item_limit (Some input_limit) offset left result given
known_limits most all one two offset left result given next =
    subst (λ n. IsNext item_limit (Some n) offset left result given) two (subst (λ n. IsNext n (Some all) offset left result given) one next)

-- the disk stopped it, or missing memory, before its line
pub cut_before_line : (verdict : Verdict) (balance : Option (ℕ × ℕ)) (status : Status) → IsOneOf (DiskFault ∷ NoMemory ∷ []) status
    → IsCutShort (line verdict balance) status []
cut_before_line verdict balance status one = record {
  stop = disk_stops status one;
  part = record { prefix = (line verdict balance, refl); shorter = line_some verdict balance };
  silent = λ early. refl;
}

-- the sink took the line, or stopped it
pub line_written : {V : Type 0} (text : List ℕ) (result : Result V Status) (taken : List ℕ) → ((status : Status) → result ≡ Err status → status ≡ SinkFault)
    → IsWritten text result taken → IsAnswered text result taken
line_written text (Ok v) taken stop written = written
line_written text (Err status) taken stop part = record {
  stop = subst IsWritingStop (sym (stop status refl)) tt;
  part = part;
  silent = λ early. absurd (not_early status (stop status refl) early);
}

-- ---- What stops it

-- what stops a line stops an item
pub line_stopped : (status : Status) → IsOneOf (SinkFault ∷ NoMemory ∷ []) status → IsOneOf item_stops status
line_stopped = among (SinkFault ∷ NoMemory ∷ []) item_stops refl

pub line_no_disk_fault : (status : Status) → IsOneOf (SinkFault ∷ NoMemory ∷ []) status → status ≡ DiskFault → ⊥
line_no_disk_fault = lacks (SinkFault ∷ NoMemory ∷ []) DiskFault refl

-- where the store stops an item
pub item_stopped : (status : Status) → IsOneOf opening_stops status → IsOneOf item_stops status
item_stopped = among opening_stops item_stops refl

pub no_input_fault : (status : Status) → IsOneOf item_stops status → status ≡ InputFault → ⊥
no_input_fault = lacks item_stops InputFault refl

pub reading_stopped : (status : Status) → IsReadingStop status → IsOneOf (InputFault ∷ item_stops) status
reading_stopped InputFault stop = held (InputFault ∷ item_stops) InputFault refl
reading_stopped NoMemory stop = held (InputFault ∷ item_stops) NoMemory refl
reading_stopped _ stop = absurd stop

pub items_stop_import : (status : Status) → IsOneOf (InputFault ∷ item_stops) status → IsOneOf import_statuses status
items_stop_import = among (InputFault ∷ item_stops) import_statuses refl

-- ---- The loop

or_false : (b : Bool) → (b || false) ≡ b
or_false true = refl
or_false false = refl

any-push : (vs : List Verdict) (v : Verdict) → list_any rules.refuses (vs ++ v ∷ []) ≡ (list_any rules.refuses vs || rules.refuses v)
any-push vs v = list_any-append rules.refuses vs (v ∷ []) ∙ ap (λ b. list_any rules.refuses vs || b) (or_false (rules.refuses v))

pub all-push : (items : List (List ℕ)) (item : List ℕ) → AreItems import_limits 0 items → IsItem item_limit item → AreItems import_limits 0 (items ++ item ∷ [])
all-push items item all is = all_items-append import_limits 0 items (item ∷ []) all (is, tt)

pub steps-push : (chain : Chain) (items : List (List ℕ)) (item : List ℕ)
    → steps_over chain (items ++ item ∷ []) ≡ steps_over chain items + moves_for (chain_over chain items) item
steps-push chain [] item = omega arith
steps-push chain (x ∷ items) item =
    let later = steps-push (chain_after chain x) items item in
    omega (arith, later)

-- one item more was imported
pub whole_more : (watched : Option (List ℕ)) (chain : Chain) (offset : ℕ) (left_old left left_new taken_old taken taken_new : Option (List ℕ)) (now new : Chain) (refused : Bool)
    (were_sound are_sound sound_new was_on is_on on_new : Type 0) (leaves leaves_new : (Image → Type 0) → Type 0) (steps_old steps_now steps_new : ℕ)
    (item given text : List ℕ) (verdict : Verdict) (size : ℕ) (any : Bool)
    → size ≡ length item → any ≡ (refused || rules.refuses verdict)
    → (whole : Whole watched chain offset left_old left taken_old taken now refused were_sound are_sound was_on is_on leaves steps_old steps_now) → IsItemAt item_limit (Some input_limit) offset item given
    → Gives left left_new given → Takes taken taken_new text
    → (are_sound → verdict ≡ verdict_over now item) → (are_sound → new ≡ chain_after now item) → (are_sound → text ≡ line_over watched now item)
    → (are_sound → sound_new) → (is_on → on_new) → (was_on → leaves_new (KeepsSome chain (whole.items ++ item ∷ []))) → steps_new ≤ steps_now + moves_for now item
    → (more : Whole watched chain (offset + size) left_old left_new taken_old taken_new new any were_sound sound_new was_on on_new leaves_new steps_old steps_new)
    × (more.items ≡ whole.items ++ item ∷ [])
whole_more watched chain offset left_old left left_new taken_old taken taken_new now new refused were_sound are_sound sound_new was_on is_on on_new leaves leaves_new steps_old steps_now steps_new item given text verdict size any
    long either whole at gives takes judged kept_is text_is stay goes_on moments most = (
      record {
        items = whole.items ++ item ∷ [];
        taken = whole.taken ++ text;
        gives = rw concat-push (gives_more left_old left left_new (concat whole.items) item whole.gives (subst (Gives left left_new) at.same gives));
        takes = takes_more taken_old taken taken_new whole.taken text whole.takes takes;
        all = all-push whole.items item whole.all at.is_item;
        place = omega (arith, long, whole.place, ap length (concat-push whole.items item), length-append (concat whole.items) item);
        within = rw long at.within;
        sound = λ sound. stay (whole.sound sound);
        lines = λ sound.
            ap (λ bs. bs ++ text) (whole.lines sound)
            ∙ ap (λ bs. text_over watched chain whole.items ++ bs) (text_is (whole.sound sound) ∙ ap (λ (k : Chain). line_over watched k item) (whole.kept_now sound))
            ∙ sym (lines-push watched chain whole.items item);
        kept_now = λ sound. kept_is (whole.sound sound) ∙ ap (λ (k : Chain). chain_after k item) (whole.kept_now sound) ∙ sym (keep-push chain_after chain whole.items item);
        any_refused = λ sound.
            either ∙ ap (λ b. b || rules.refuses verdict) (whole.any_refused sound)
            ∙ ap (λ (v : Verdict). list_any rules.refuses (verdicts_over chain whole.items) || rules.refuses v)
            (judged (whole.sound sound) ∙ ap (λ (k : Chain). verdict_over k item) (whole.kept_now sound))
            ∙ sym (any-push (verdicts_over chain whole.items) (verdict_over (chain_over chain whole.items) item))
            ∙ sym (ap (list_any rules.refuses) (verdicts-push chain_after verdict_over chain whole.items item));
        on = λ was. goes_on (whole.on was);
        moments = moments;
        steps = λ sound.
            omega (
              arith,
              whole.steps sound,
              steps-push chain whole.items item,
              subst (λ (k : Chain). steps_new ≤ steps_now + moves_for k item) (whole.kept_now sound) most,
            );
      },
      refl,
    )

-- ---- The exits

-- the reading ended after whole items
pub imported_to_end : (watched : Option (List ℕ)) (chain : Chain) (offset : ℕ) (left_old left left_new taken_old taken : Option (List ℕ)) (now : Chain) (ended : Ended)
    (were_sound are_sound was_on is_on : Type 0) (images : Image → Type 0) (leaves : (Image → Type 0) → Type 0) (steps_old steps_now : ℕ) (given : List ℕ)
    → Whole watched chain offset left_old left taken_old taken now ended.refused were_sound are_sound was_on is_on leaves steps_old steps_now → Gives left left_new given
    → EndsAt (Some item_limit) (Some input_limit) offset left_new ended.end given → IsPartial item_limit (Some input_limit) offset given → ended.offset ≡ offset
    → (is_on → Each images (StandsFor now))
    → Transfers left_old left_new taken_old taken (λ given taken. were_sound → AreImported watched chain left_new (Ok ended) was_on images leaves given taken)
imported_to_end watched chain offset left_old left left_new taken_old taken now ended were_sound are_sound was_on is_on images leaves steps_old steps_now given whole gives ends partial there stand = (
  concat whole.items ++ given,
  whole.taken,
  gives_more left_old left left_new (concat whole.items) given whole.gives gives,
  whole.takes,
  λ sound. record {
    items = whole.items;
    before = whole.items;
    rest = given;
    are_given = record {
      whole = refl;
      all = whole.all;
      within = rw (← whole.place) whole.within;
      partial = rw (← whole.place) partial;
    };
    came = (
      refl,
      record {
        lines = whole.lines sound;
        refused = whole.any_refused sound;
        offset = there ∙ whole.place;
        ends = rw (← whole.place) ends;
      },
    );
    exit = λ was. λ image left. inl (subst (λ (k : Chain). StandsFor k image) (whole.kept_now sound) (stand (whole.on was) image left));
    moments = whole.moments;
  },
)

-- the reading was stopped after whole items
pub imported_to_fault : (watched : Option (List ℕ)) (chain : Chain) (offset : ℕ) (left_old left left_new taken_old taken : Option (List ℕ)) (now : Chain) (refused : Bool)
    (were_sound are_sound was_on is_on : Type 0) (images : Image → Type 0) (leaves : (Image → Type 0) → Type 0) (steps_old steps_now : ℕ) (status : Status) (given : List ℕ)
    → (whole : Whole watched chain offset left_old left taken_old taken now refused were_sound are_sound was_on is_on leaves steps_old steps_now) → Gives left left_new given → IsReadingStop status
    → IsPartial item_limit (Some input_limit) offset given ⊎ IsItemAt item_limit (Some input_limit) offset given given
    → (is_on → Each images (StandsFor now))
    → (leaves (KeepsSome chain whole.items) → leaves (KeepsSome chain (whole.items ++ given ∷ [])))
    → Transfers left_old left_new taken_old taken (λ given taken. were_sound → AreImported watched chain left_new (Err status) was_on images leaves given taken)
imported_to_fault watched chain offset left_old left left_new taken_old taken now refused were_sound are_sound was_on is_on images leaves steps_old steps_now status given whole gives stop (inl partial) stand weaker = (
  concat whole.items ++ given,
  whole.taken,
  gives_more left_old left left_new (concat whole.items) given whole.gives gives,
  whole.takes,
  λ sound. record {
    items = whole.items;
    before = whole.items;
    rest = given;
    are_given = record {
      whole = refl;
      all = whole.all;
      within = rw (← whole.place) whole.within;
      partial = rw (← whole.place) partial;
    };
    came = record {
      stop = reading_stops status stop;
      part = [];
      taken_is = whole.lines sound ∙ sym (append-nil (text_over watched chain whole.items));
      silent = λ early. refl;
      last = inl (refl, refl);
    };
    exit = λ was. λ image left. inl (subst (λ (k : Chain). StandsFor k image) (whole.kept_now sound) (stand (whole.on was) image left));
    moments = whole.moments;
  },
)
imported_to_fault watched chain offset left_old left left_new taken_old taken now refused were_sound are_sound was_on is_on images leaves steps_old steps_now status given whole gives stop (inr at) stand weaker = (
  concat whole.items ++ given,
  whole.taken,
  gives_more left_old left left_new (concat whole.items) given whole.gives gives,
  whole.takes,
  λ sound. record {
    items = whole.items ++ given ∷ [];
    before = whole.items;
    rest = [];
    are_given = record {
      whole = sym (append-nil (concat (whole.items ++ given ∷ [])) ∙ concat-push whole.items given);
      all = all-push whole.items given whole.all at.is_item;
      within = rw concat-push (omega (arith, at.within, whole.place, length-append (concat whole.items) given));
      partial = few_partial item_limit (Some input_limit) (length (concat (whole.items ++ given ∷ []))) [] (omega arith);
    };
    came = record {
      stop = reading_stops status stop;
      part = [];
      taken_is = whole.lines sound ∙ sym (append-nil (text_over watched chain whole.items));
      silent = λ early. refl;
      last = inr (
        given,
        refl,
        refl,
        record {
          prefix = (line_over watched (chain_over chain whole.items) given, refl);
          shorter = line_over-some watched (chain_over chain whole.items) given;
        },
      );
    };
    exit = λ was. λ image left. inl (subst (λ (k : Chain). StandsFor k image) (whole.kept_now sound) (stand (whole.on was) image left));
    moments = λ was. weaker (whole.moments was);
  },
)

-- an item was read, and its import was stopped
pub imported_to_line : (watched : Option (List ℕ)) (chain : Chain) (offset : ℕ) (left_old left left_new taken_old taken taken_new : Option (List ℕ)) (now : Chain) (refused : Bool)
    (were_sound are_sound was_on is_on : Type 0) (images : Image → Type 0) (leaves leaves_new : (Image → Type 0) → Type 0) (steps_old steps_now : ℕ) (status : Status) (item given part : List ℕ)
    → (whole : Whole watched chain offset left_old left taken_old taken now refused were_sound are_sound was_on is_on leaves steps_old steps_now) → IsItemAt item_limit (Some input_limit) offset item given
    → Gives left left_new given → Takes taken taken_new part → (are_sound → IsCutShort (line_over watched now item) status part)
    → (were_sound → is_on → Each images (λ image. StandsFor (chain_over chain whole.items) image ⊎ StandsFor (chain_over chain (whole.items ++ item ∷ [])) image))
    → (was_on → leaves_new (KeepsSome chain (whole.items ++ item ∷ [])))
    → Transfers left_old left_new taken_old taken_new (λ given taken. were_sound → AreImported watched chain left_new (Err status) was_on images leaves_new given taken)
imported_to_line watched chain offset left_old left left_new taken_old taken taken_new now refused were_sound are_sound was_on is_on images leaves leaves_new steps_old steps_now status item given part
    whole at gives takes short exit moments = (
      concat whole.items ++ item,
      whole.taken ++ part,
      gives_more left_old left left_new (concat whole.items) item whole.gives (subst (Gives left left_new) at.same gives),
      takes_more taken_old taken taken_new whole.taken part whole.takes takes,
      λ sound.
          let cut = short (whole.sound sound) in
          record {
            items = whole.items ++ item ∷ [];
            before = whole.items;
            rest = [];
            are_given = record {
              whole = sym (append-nil (concat (whole.items ++ item ∷ [])) ∙ concat-push whole.items item);
              all = all-push whole.items item whole.all at.is_item;
              within = rw concat-push (omega (arith, at.within, whole.place, length-append (concat whole.items) item));
              partial = few_partial item_limit (Some input_limit) (length (concat (whole.items ++ item ∷ []))) [] (omega arith);
            };
            came = record {
              stop = writing_stops status cut.stop;
              part = part;
              taken_is = ap (λ bs. bs ++ part) (whole.lines sound);
              silent = cut.silent;
              last = inr (item, refl, refl, subst (λ (k : Chain). IsPartOf (line_over watched k item) part) (whole.kept_now sound) cut.part);
            };
            exit = λ was. exit sound (whole.on was);
            moments = moments;
          },
    )

-- `a || b` where a is known
pub or_then : (a b : Bool) → a ≡ true → (a || b) ≡ a
or_then true b e = refl
or_then false b e = absurd (cc)

pub or_else : (a b : Bool) → a ≡ false → (a || b) ≡ b
or_else true b e = absurd (cc)
or_else false b e = refl
