-- What holds of an assembly after each item.
use Rattle.std.proofs.Common.{◌≡◌, ℕ, ◌+◌, ◌<◌, ◌≤◌, true, List, [], ◌∷◌, ◌++◌, length, take, drop, Some, None, refl, sym, ap, ◌∙◌, subst, ◌⊎◌, inl, inr, arith}
use Rattle.std.specs.Prelude.{IsTrue, slice_get}
use Rattle.std.proofs.lemmas.List.{append-nil, take-append-le, take_at, length_push, length-drop, length-take-le}
use Rattle.std.proofs.lemmas.Option.{slice_get_within}
use Rattle.chain_defs.specs.Shape.{decoded}
use Rattle.chain_defs.specs.Schema.{Transaction, transaction, Block}
use Rattle.chain_defs.specs.First.{AllHold, first_failing}
use Rattle.chain_defs.proofs.FirstLemmas.{finds_none}
use Rattle.chain_defs.specs.Specification.{Specification}
use Rattle.chain_defs.proofs.KeptLaws.{slice_get-before, slice_get-push, slice_get-pushed}
use Rattle.rule_defs.specs.Body.{has_proposals}
use Rattle.rule_defs.specs.Site.{Site, site_at}
use Rattle.rule_defs.specs.Capacity.{fee}
use Rattle.verdict_defs.specs.Scene.{scene_of}
use Rattle.verdict_defs.specs.ScriptRules.{cycles_of}
use Rattle.verdict_defs.specs.Transactions.{transaction_rules, left_after, rules_from, rules_of_transactions}
use Rattle.pool_defs.specs.Start.{header_after}
use Rattle.pool_defs.specs.Assembly.{Assembly, with_transaction, with_proposal, with_line, next_site, proposed, committed_at, take_item}
use Rattle.pool_defs.specs.Laws.{left_from, left_before, IsCommitted}
use Rattle.pool_defs.specs.declared.line.Line.{Line}
use Rattle.pool_defs.specs.declared.line.Line.TheVariants.{Commit, Propose, Refused, Later}
use Rattle.pool_defs.proofs.StepLemmas.{changes_nothing, by_step}
use Rattle.pool_defs.proofs.RulesLemmas.{AgreeUpTo, hold-append, site-agrees, rules-agree, left-agrees, rules-push, left-push}

-- ---- A block of the same timestamp with more transactions after those that it has

module _ (spec : Specification) (branch : List Block) (b other : Block) (more : List Transaction)
    (timestamps : b.header.timestamp ≡ other.header.timestamp) (grown : other.transactions ≡ b.transactions ++ more) where
  agree-within : (place : ℕ) → place ≤ length b.transactions → take place b.transactions ≡ take place other.transactions
  agree-within place within = sym (ap (take place) grown ∙ take-append-le place b.transactions more within)

  pub agrees : (end : ℕ) → end ≤ length b.transactions + 1 → AgreeUpTo end b other
  agrees end within = record { timestamps = timestamps; before = λ place below. agree-within place (omega (arith, within, below)) }

  pub left-grown : (place : ℕ) → 0 < place → place ≤ length b.transactions → left_before spec branch b place ≡ left_before spec branch other place
  left-grown place after_cellbase within =
      let rest : List Transaction = drop 1 (take place b.transactions) in
      let long : length (take place b.transactions) ≡ place = length-take-le place b.transactions within in
      let short = length-drop 1 (take place b.transactions) in
      left-agrees spec branch b other 1 spec.max_cycles rest (agrees (1 + length rest) (omega (arith, long, short, within, after_cellbase)))
      ∙ ap (λ (txs : List Transaction). left_from spec branch other 1 spec.max_cycles (drop 1 txs)) (agree-within place within)

  pub still-committed : (t : Transaction) (paid cycles : ℕ) → IsCommitted spec branch b t paid cycles → IsCommitted spec branch other t paid cycles
  still-committed t paid cycles is =
      let within : is.place < length b.transactions = slice_get_within b.transactions is.place t is.there in
      let site : site_at spec branch b is.place ≡ site_at spec branch other is.place =
      site-agrees spec branch b other is.place timestamps (agree-within is.place (omega (arith, within))) in
      let left : left_before spec branch b is.place ≡ left_before spec branch other is.place =
      left-grown is.place is.after_cellbase (omega (arith, within)) in
      record {
        place = is.place;
        after_cellbase = is.after_cellbase;
        there = ap (λ (txs : List Transaction). slice_get txs is.place) grown ∙ slice_get-before b.transactions more is.place within ∙ is.there;
        kept = subst AllHold (ap (λ (s : Site). transaction_rules s (left_before spec branch b is.place) t) site
            ∙ ap (λ (l : ℕ). transaction_rules (site_at spec branch other is.place) l t) left) is.kept;
        fee_is = is.fee_is ∙ ap (λ (s : Site). fee s t) site;
        cycles_are = is.cycles_are ∙ ap (λ (s : Site). cycles_of (scene_of s t) (left_before spec branch b is.place)) site
            ∙ ap (λ (l : ℕ). cycles_of (scene_of (site_at spec branch other is.place) t) l) left;
      }

-- ---- What holds after each item

pub record Holds (spec : Specification) (branch : List Block) (done : List (List ℕ)) (so_far : Assembly) : Type 0 where
  pub some : 0 < length so_far.block.transactions
  pub uncles : so_far.block.uncles ≡ []
  pub header : so_far.block.header ≡ header_after spec branch
  pub ids : IsTrue (has_proposals spec so_far.block)
  pub rules : AllHold (rules_of_transactions spec branch so_far.block)
  pub left : so_far.left ≡ left_from spec branch so_far.block 1 spec.max_cycles (drop 1 so_far.block.transactions)
  pub count : length so_far.lines ≡ length done
  pub commits : (i paid cycles : ℕ) → slice_get so_far.lines i ≡ Some (Commit paid cycles)
      → (item : List ℕ) × (t : Transaction) × (slice_get done i ≡ Some item) × (decoded transaction item ≡ Some t)
      × IsCommitted spec branch so_far.block t paid cycles

drop-push : (txs : List Transaction) (t : Transaction) → 0 < length txs → drop 1 (txs ++ t ∷ []) ≡ drop 1 txs ++ t ∷ []
drop-push [] t some = absurd (omega (arith, some))
drop-push (first ∷ later) t some = refl

pub after-first : (txs : List Transaction) → 0 < length txs → 1 + length (drop 1 txs) ≡ length txs
after-first [] some = absurd (omega (arith, some))
after-first (first ∷ later) some = omega arith

module _ (spec : Specification) (branch : List Block) (done : List (List ℕ)) (item : List ℕ) (so_far : Assembly) (holds : Holds spec branch done so_far) where
  one-more : (line : Line) → length (so_far.lines ++ line ∷ []) ≡ length (done ++ item ∷ [])
  one-more line = length_push so_far.lines line ∙ ap (λ (n : ℕ). n + 1) holds.count ∙ sym (length_push done item)

  -- the commits among the lines so far, and one line more, over a block that has grown
  commits-more : (other : Block) (more : List Transaction) (line : Line) → so_far.block.header.timestamp ≡ other.header.timestamp
      → other.transactions ≡ so_far.block.transactions ++ more
      → ((paid cycles : ℕ) → line ≡ Commit paid cycles
      → (t : Transaction) × (decoded transaction item ≡ Some t) × IsCommitted spec branch other t paid cycles)
      → (i paid cycles : ℕ) → slice_get (so_far.lines ++ line ∷ []) i ≡ Some (Commit paid cycles)
      → (it : List ℕ) × (t : Transaction) × (slice_get (done ++ item ∷ []) i ≡ Some it) × (decoded transaction it ≡ Some t)
      × IsCommitted spec branch other t paid cycles
  commits-more other more line timestamps grown last i paid cycles there = by_place (slice_get-pushed so_far.lines line i (Commit paid cycles) there)
    where
      by_place : ((i < length so_far.lines) × (slice_get so_far.lines i ≡ Some (Commit paid cycles))) ⊎ ((i ≡ length so_far.lines) × (line ≡ Commit paid cycles))
          → (it : List ℕ) × (t : Transaction) × (slice_get (done ++ item ∷ []) i ≡ Some it) × (decoded transaction it ≡ Some t)
          × IsCommitted spec branch other t paid cycles
      by_place (inl before) =
          let found = holds.commits i paid cycles before.1 in (
            found.0,
            found.1,
            slice_get-before done (item ∷ []) i (slice_get_within done i found.0 found.2) ∙ found.2,
            found.3,
            still-committed spec branch so_far.block other more timestamps grown found.1 paid cycles found.4,
          )
      by_place (inr at) =
          let found = last paid cycles at.1 in
          (item, found.0, ap (slice_get (done ++ item ∷ [])) (at.0 ∙ holds.count) ∙ slice_get-push done item, found.1, found.2)

  same-block : (line : Line) → changes_nothing line ≡ true → Holds spec branch (done ++ item ∷ []) (with_line so_far line)
  same-block line none = record {
    some = holds.some;
    uncles = holds.uncles;
    header = holds.header;
    ids = holds.ids;
    rules = holds.rules;
    left = holds.left;
    count = one-more line;
    commits = commits-more so_far.block [] line refl (sym (append-nil so_far.block.transactions)) (no_commit line none);
  }
    where
      no_commit : (line : Line) → changes_nothing line ≡ true → (paid cycles : ℕ) → line ≡ Commit paid cycles
          → (t : Transaction) × (decoded transaction item ≡ Some t) × IsCommitted spec branch so_far.block t paid cycles
      no_commit (Commit p c) none paid cycles is = absurd (cc)
      no_commit Propose none paid cycles is = absurd (cc)
      no_commit (Refused rule) none paid cycles is = absurd (cc)
      no_commit Later none paid cycles is = absurd (cc)

  proposes-one : (t : Transaction) (id : List ℕ) → IsTrue (has_proposals spec (with_proposal so_far.block id))
      → Holds spec branch (done ++ item ∷ []) (proposed so_far id)
  proposes-one t id keeps = record {
    some = holds.some;
    uncles = holds.uncles;
    header = holds.header;
    ids = keeps;
    rules = subst AllHold (rules-agree spec branch so_far.block other 1 spec.max_cycles rest (agrees spec branch so_far.block other [] refl same (1 + length rest) within)) holds.rules;
    left = holds.left ∙ left-agrees spec branch so_far.block other 1 spec.max_cycles rest (agrees spec branch so_far.block other [] refl same (1 + length rest) within);
    count = one-more Propose;
    commits = commits-more other [] Propose refl same (λ paid cycles is. absurd (cc));
  }
    where
      other : Block
      other = with_proposal so_far.block id

      rest : List Transaction
      rest = drop 1 so_far.block.transactions

      same : other.transactions ≡ so_far.block.transactions ++ []
      same = sym (append-nil so_far.block.transactions)

      within : 1 + length rest ≤ length so_far.block.transactions + 1
      within = omega (arith, after-first so_far.block.transactions holds.some)

  commits-one : (t : Transaction) → decoded transaction item ≡ Some t
      → first_failing (transaction_rules (next_site spec branch so_far.block) so_far.left t) ≡ None
      → Holds spec branch (done ++ item ∷ []) (committed_at (next_site spec branch so_far.block) so_far t)
  commits-one t is unbroken = record {
    some = omega (arith, length_push so_far.block.transactions t);
    uncles = holds.uncles;
    header = holds.header;
    ids = holds.ids;
    rules = subst AllHold (sym rules_are) (hold-append (rules_from spec branch other 1 spec.max_cycles rest) (transaction_rules here so_far.left t)
        (subst AllHold (rules-agree spec branch so_far.block other 1 spec.max_cycles rest agree) holds.rules) kept);
    left = sym left_is;
    count = one-more (Commit (fee here t) (cycles_of (scene_of here t) so_far.left));
    commits = commits-more other (t ∷ []) (Commit (fee here t) (cycles_of (scene_of here t) so_far.left)) refl refl
        (λ paid cycles same. (
          t,
          is,
          record {
            place = length so_far.block.transactions;
            after_cellbase = holds.some;
            there = slice_get-push so_far.block.transactions t;
            kept = subst AllHold (ap (λ (s : Site). transaction_rules s so_far.left t) site ∙ ap (λ (l : ℕ). transaction_rules there l t) before) kept;
            fee_is = paid_is paid cycles same ∙ ap (λ (s : Site). fee s t) site;
            cycles_are = cycles_is paid cycles same ∙ ap (λ (s : Site). cycles_of (scene_of s t) so_far.left) site
                ∙ ap (λ (l : ℕ). cycles_of (scene_of there t) l) before;
          },
        ));
  }
    where
      other : Block
      other = with_transaction so_far.block t

      rest : List Transaction
      rest = drop 1 so_far.block.transactions

      here : Site
      here = next_site spec branch so_far.block

      there : Site
      there = site_at spec branch other (length so_far.block.transactions)

      kept : AllHold (transaction_rules here so_far.left t)
      kept = (finds_none (transaction_rules here so_far.left t)).0 unbroken

      agree : AgreeUpTo (1 + length rest) so_far.block other
      agree = agrees spec branch so_far.block other (t ∷ []) refl refl (1 + length rest) (omega (arith, after-first so_far.block.transactions holds.some))

      site : here ≡ there
      site = site-agrees spec branch so_far.block other (length so_far.block.transactions) refl
          (sym (take-append-le (length so_far.block.transactions) so_far.block.transactions (t ∷ []) (omega arith)))

      left_here : left_from spec branch other 1 spec.max_cycles rest ≡ so_far.left
      left_here = sym (holds.left ∙ left-agrees spec branch so_far.block other 1 spec.max_cycles rest agree)

      at_end : site_at spec branch other (1 + length rest) ≡ here
      at_end = ap (site_at spec branch other) (after-first so_far.block.transactions holds.some) ∙ sym site

      before : so_far.left ≡ left_before spec branch other (length so_far.block.transactions)
      before = sym left_here ∙ ap (λ (txs : List Transaction). left_from spec branch other 1 spec.max_cycles (drop 1 txs))
          (sym (take_at so_far.block.transactions (t ∷ []) (length so_far.block.transactions) refl))

      rules_are : rules_of_transactions spec branch other ≡ rules_from spec branch other 1 spec.max_cycles rest ++ transaction_rules here so_far.left t
      rules_are =
          ap (rules_from spec branch other 1 spec.max_cycles) (drop-push so_far.block.transactions t holds.some)
          ∙ rules-push spec branch other 1 spec.max_cycles rest t
          ∙ ap (λ (s : Site). rules_from spec branch other 1 spec.max_cycles rest ++ transaction_rules s (left_from spec branch other 1 spec.max_cycles rest) t) at_end
          ∙ ap (λ (l : ℕ). rules_from spec branch other 1 spec.max_cycles rest ++ transaction_rules here l t) left_here

      left_is : left_from spec branch other 1 spec.max_cycles (drop 1 other.transactions) ≡ left_after here so_far.left t
      left_is =
          ap (left_from spec branch other 1 spec.max_cycles) (drop-push so_far.block.transactions t holds.some)
          ∙ left-push spec branch other 1 spec.max_cycles rest t
          ∙ ap (λ (s : Site). left_after s (left_from spec branch other 1 spec.max_cycles rest) t) at_end
          ∙ ap (λ (l : ℕ). left_after here l t) left_here

      paid_is : (paid cycles : ℕ) → Commit (fee here t) (cycles_of (scene_of here t) so_far.left) ≡ Commit paid cycles → paid ≡ fee here t
      paid_is paid cycles same = cc

      cycles_is : (paid cycles : ℕ) → Commit (fee here t) (cycles_of (scene_of here t) so_far.left) ≡ Commit paid cycles
          → cycles ≡ cycles_of (scene_of here t) so_far.left
      cycles_is paid cycles same = cc

  pub holds-next : Holds spec branch (done ++ item ∷ []) (take_item spec branch so_far item)
  holds-next = by_step spec branch so_far item (Holds spec branch (done ++ item ∷ [])) same-block
      (λ t is keeps. proposes-one t _ keeps) commits-one
