-- The first rule that is broken, of rows that are gone through.
use Rattle.std.proofs.Common.{◌≡◌, ℕ, ◌+◌, ◌<◌, ◌≤◌, Bool, true, false, List, [], ◌∷◌, length, map, drop, slice_index_or, Some, None, sym, ap, ◌∙◌}
use Rattle.std.proofs.lemmas.List.{at_drop_more, at_drop_all}
use Rattle.chain_defs.specs.First.{first_failing}
use Rattle.chain_defs.proofs.FirstLemmas.{first_failing-fails, first_failing-holds, first_failing-none}
use Rattle.rule_defs.specs.declared.rule.Rule.{Rule}
use Rattle.rule_defs.specs.RuleNumber.{rule_number, numbered_row}

pub ends-broken : (rows : List (Rule × Bool)) (i : ℕ) (d : Rule × Bool) → i < length rows → (slice_index_or rows i d).1 ≡ false
    → Some (rule_number (slice_index_or rows i d).0) ≡ first_failing (map numbered_row (drop i rows))
ends-broken rows i d within broken =
    sym (at_drop_more (λ (l : List (Rule × Bool)). first_failing (map numbered_row l)) rows i d within
    ∙ first_failing-fails (rule_number (slice_index_or rows i d).0) (slice_index_or rows i d).1 (map numbered_row (drop (i + 1) rows)) broken)

pub goes-on : (rows : List (Rule × Bool)) (i : ℕ) (d : Rule × Bool) → i < length rows → (slice_index_or rows i d).1 ≡ true
    → first_failing (map numbered_row (drop i rows)) ≡ first_failing (map numbered_row (drop (i + 1) rows))
goes-on rows i d within kept =
    at_drop_more (λ (l : List (Rule × Bool)). first_failing (map numbered_row l)) rows i d within
    ∙ first_failing-holds (rule_number (slice_index_or rows i d).0) (slice_index_or rows i d).1 (map numbered_row (drop (i + 1) rows)) kept

pub ends-kept : (rows : List (Rule × Bool)) (i : ℕ) → length rows ≤ i → None ≡ first_failing (map numbered_row (drop i rows))
ends-kept rows i past =
    sym (at_drop_all (λ (l : List (Rule × Bool)). first_failing (map numbered_row l)) rows i past ∙ first_failing-none)
