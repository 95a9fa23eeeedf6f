use Rattle.std.proofs.Common.{◌≡◌, ◌+◌, ◌<◌, ℕ, List, [], ◌∷◌, ◌++◌, length, map, get_or, Vec, Global, inr, refl, sym, ap, ◌∙◌, subst, arith, append-nil}
use Rattle.std.specs.Prelude.{Some, None, Ok}
use Rattle.std.specs.List.{concat}
use Rattle.std.proofs.lemmas.List.{map-append, length_push}
use Rattle.outside.proofs.Streams.{gives_more}
use Rattle.report_defs.specs.Items.{whole_limits}
use Rattle.run_text.specs.Items.{IsReadingStop, IsItemAt}
use Rattle.run_text.specs.declared.whole.Whole.{Whole}
use Rattle.run_text.specs.Whole.{IsReadWhole, whole_at}
use Rattle.run_text.proofs.FurtherLemmas.{items_no_further}
use Rattle.run_text.proofs.WholeLemmas.{HasReadItems, count_of, next_limit, has_read_more, offset_fits, read_at, ends_behind, stopped_before}
use Rattle.run_text.proofs.whole.read_whole.Goals as goal

pub returns-in-Ok-End-clause-read : goal.returns-in-Ok-End-clause-read
returns-in-Ok-End-clause-read g c =
    let limits = c.args.limits.now in
    let i = c.items.limit-index in
    let items = map (λ (v : Vec ℕ Global). v.items) c.items.items.items in
    let left = g.S.Source.left c.next_item.new.input in
    let read = c.items.invariant.read in
    let found = c.in-Ok-End.ensures.next in
    let next = rw c.in-Ok-End.field-0-is at found.2 in
    let answer = read_at limits items read.all c.args.needed (get_or limits i 0) c.len.result left c.items.items c.in-Ok-End.end c.items.offset found.0 (concat items ++ found.0) refl
    (omega (arith, c.len.ensures, c.items.items.ok)) refl (next_limit limits c.items.items.items i c.items.invariant.count c.items-test.true) read.place next.0 next.1 in (
      concat items ++ found.0,
      gives_more (g.S.Source.left c.args.input.now) (g.S.Source.left c.items.input) left (concat items) found.0 read.gives found.1,
      subst (λ (w : Whole). IsReadWhole limits c.args.needed left (Ok w) (concat items ++ found.0))
          (sym (c.whole_at.ensures ∙ ap (whole_at c.items.items c.items.offset) c.end_after-end.ensures)) answer,
    )

pub returns-in-Err-clause-read : goal.returns-in-Err-clause-read
returns-in-Err-clause-read g c =
    let limits = c.args.limits.now in
    let i = c.items.limit-index in
    let items = map (λ (v : Vec ℕ Global). v.items) c.items.items.items in
    let read = c.items.invariant.read in
    let found = c.in-Err.ensures.next in (
      concat items ++ found.0,
      gives_more (g.S.Source.left c.args.input.now) (g.S.Source.left c.items.input) (g.S.Source.left c.next_item.new.input) (concat items) found.0 read.gives found.1,
      (
        found.2.0,
        stopped_before limits items read.all (get_or limits i 0) c.items.offset found.0 (concat items ++ found.0) refl
            (next_limit limits c.items.items.items i c.items.invariant.count c.items-test.true) read.place found.2.1,
      ),
    )

pub returns-in-Err-push-clause-read : goal.returns-in-Err-push-clause-read
returns-in-Err-push-clause-read g c =
    let limits = c.args.limits.now in
    let i = c.items.limit-index in
    let items = map (λ (v : Vec ℕ Global). v.items) c.items.items.items in
    let read = c.items.invariant.read in
    let found = c.in-Ok-Item.ensures.next in
    let next = rw c.in-Ok-Item.field-0-is at found.2 in
    let at : IsItemAt (get_or limits i 0) None c.items.offset found.0 found.0 =
    subst (λ (bytes : List ℕ). IsItemAt (get_or limits i 0) None c.items.offset bytes found.0) (sym next.same) next in (
      concat items ++ found.0,
      gives_more (g.S.Source.left c.args.input.now) (g.S.Source.left c.items.input) (g.S.Source.left c.next_item.new.input) (concat items) found.0 read.gives found.1,
      (
        tt,
        stopped_before limits items read.all (get_or limits i 0) c.items.offset found.0 (concat items ++ found.0) refl
            (next_limit limits c.items.items.items i c.items.invariant.count c.items-test.true) read.place (inr at),
      ),
    )

pub items-preserved : goal.items-preserved
items-preserved g c =
    let limits = c.args.limits.now in
    let i = c.items.limit-index in
    let vectors = c.items.items.items in
    let items = map (λ (v : Vec ℕ Global). v.items) vectors in
    let item = c.in-Ok-Item.item in
    let old = g.S.Source.left c.args.input.now in
    let left = g.S.Source.left c.next_item.new.input in
    let read = c.items.invariant.read in
    let found = c.in-Ok-Item.ensures.next in
    let next = rw c.in-Ok-Item.field-0-is at found.2 in
    let size : length item.items ≡ c.len-in-items.result = omega (arith, c.len-in-items.ensures, item.ok) in
    let grown : map (λ (v : Vec ℕ Global). v.items) c.push.new.self.items ≡ items ++ item.items ∷ [] =
    ap (map (λ (v : Vec ℕ Global). v.items)) c.in-Ok.ensures.items ∙ map-append (λ (v : Vec ℕ Global). v.items) vectors (item ∷ []) in
    let more : HasReadItems limits old left (items ++ item.items ∷ []) (c.items.offset + length item.items) =
    has_read_more limits old (g.S.Source.left c.items.input) left items item.items found.0 c.items.offset (get_or limits i 0) read
    (next_limit limits vectors i c.items.invariant.count c.items-test.true) next found.1 in
    record {
      read = subst (λ (them : List (List ℕ)). HasReadItems limits old left them (c.items.offset + c.len-in-items.result)) (sym grown)
          (subst (λ (n : ℕ). HasReadItems limits old left (items ++ item.items ∷ []) (c.items.offset + n)) size more);
      count = ap length c.in-Ok.ensures.items ∙ length_push vectors item ∙ ap (λ (n : ℕ). n + 1) c.items.invariant.count;
      fits = offset_fits limits i c.items.offset c.len-in-items.result c.items-test.true c.items.invariant.fits (omega (arith, size, next.is_item.most));
      unchanged = c.in-Ok-Item.ensures.faults.unchanged (λ e. cc) ∙ c.items.invariant.unchanged;
    }

pub returns-in-Err-has_more-clause-read : goal.returns-in-Err-has_more-clause-read
returns-in-Err-has_more-clause-read g c =
    let items = map (λ (v : Vec ℕ Global). v.items) c.items.items.items in
    let read = c.items.invariant.read in
    let more = c.in-Err-has_more.ensures.more in (
      concat items ++ more.0,
      gives_more (g.S.Source.left c.args.input.now) (g.S.Source.left c.items.input) (g.S.Source.left c.has_more.new.input) (concat items) more.0 read.gives more.1,
      (
        subst IsReadingStop (sym more.2.0) tt,
        items_no_further (whole_limits c.args.limits.now) items read.all tt (concat items ++ more.0)
            (ap (λ (bytes : List ℕ). concat items ++ bytes) more.2.1 ∙ append-nil (concat items)),
      ),
    )

pub returns-then-more-clause-read : goal.returns-then-more-clause-read
returns-then-more-clause-read g c =
    let limits = c.args.limits.now in
    let items = map (λ (v : Vec ℕ Global). v.items) c.items.items.items in
    let read = c.items.invariant.read in
    let left = g.S.Source.left c.has_more.new.input in
    let more = rw c.if-more.true at c.in-Ok-has_more.ensures.more in
    let count : length items ≡ length limits =
    omega (arith, count_of c.items.items.items c.items.limit-index c.items.invariant.count, c.items-test.false, c.items.auto.limit-index-end) in (
      concat items ++ more.0,
      gives_more (g.S.Source.left c.args.input.now) (g.S.Source.left c.items.input) left (concat items) more.0 read.gives more.1,
      ends_behind limits items read.all c.args.needed left c.items.offset more.0 (concat items ++ more.0) refl c.requires.needed count read.place more.2,
    )
