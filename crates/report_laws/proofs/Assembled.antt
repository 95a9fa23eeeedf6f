-- What `assemble` tells ends in a block that would join, or in a rule for which there is none.
use Rattle.std.proofs.Common.{◌≡◌, ◌⊎◌, inl, inr, ℕ, ◌<◌, true, false, List, [], ◌∷◌, ◌++◌, length, map, refl, sym, ap, ◌∙◌, subst, arith}
use Rattle.std.specs.Prelude.{Option, Some, None, IfSome, IsTrue, ◌==◌, if◌then◌else◌, codes}
use Rattle.std.specs.List.{concat}
use Rattle.std.proofs.lemmas.Bool.Decides.{eqb_tells}
use Rattle.std.proofs.lemmas.Option.{slice_get_within}
use Rattle.outside.specs.Image.{Image}
use Rattle.chain_defs.specs.Shape.{encoded, decoded}
use Rattle.chain_defs.proofs.ShapeLaws.{IsEncoding-decoded}
use Rattle.chain_defs.specs.Schema as schema
use Rattle.chain_defs.specs.Schema.{Block, CellbaseWitness, cellbase_witness}
use Rattle.chain_defs.specs.First.{first_failing}
use Rattle.chain_defs.specs.Kept.{block_hash, block_at, kept_limit}
use Rattle.rule_defs.specs.Genesis.{is_first, genesis_rules}
use Rattle.verdict_defs.specs.declared.verdict.Verdict.{Verdict}
use Rattle.verdict_defs.specs.Verdict.{joins}
use Rattle.verdict_defs.specs.Chain.{Chain, verdict_over}
use Rattle.pool_defs.specs.Assembly.{assembled}
use Rattle.pool_defs.specs.Laws.{IsFounded, BreaksFew}
use Rattle.report_laws.specs.CanonicalLaws.{IsInRange, UnbrokenIsJoined, KeptIsInRange}
use Rattle.store_defs.specs.Store.{StandsFor, IsJoined}
use Rattle.store_defs.specs.StoreLaws.{StandsForWhatJoined}
use Rattle.store_defs.proofs.JoinedLemmas.{is_kept_of_joined}
use Rattle.report_defs.specs.declared.command.Question.TheVariants.{Assemble}
use Rattle.report_defs.specs.declared.end.End.{End}
use Rattle.report_defs.specs.declared.end.End.TheVariants as ends
use Rattle.report_defs.specs.declared.status.Status.{Status}
use Rattle.report_defs.specs.declared.status.Status.TheVariants.{Done, SomeRefused}
use Rattle.report_defs.specs.Status.{IsOneOf}
use Rattle.report_defs.specs.Items.{split_of, end_offset, end_of_whole}
use Rattle.report_defs.specs.Assembly.{pool_line}
use Rattle.report_defs.specs.Report.{Report, text_of, question_limits, report_of_end, report_at_end, report_of_assembled, report_with_witness, report_of_assembly}
use Rattle.report_defs.specs.Laws.{EndsInBlock, EndsInNoBlock, WhatIsAssembledJoins}

-- ---- What is kept begins with a genesis of number 0

first-number : (genesis : Block) → first_failing (genesis_rules genesis) ≡ None → genesis.header.number ≡ 0
unfolding first_failing
first-number genesis good = elim (eqb_tells genesis.header.number 0) [
  | inl zero ↦ zero.1
  | inr other ↦ absurd (none_broken (rw other.0 at good))
]
  where
    none_broken : ◌≡◌ {A = Option ℕ} (Some 2) None → ⊥
    none_broken is = absurd (cc)

founded : (chain : Chain) → IsJoined chain → IsFounded chain.blocks
founded chain joined = record {
  is_kept = is_kept_of_joined chain joined;
  some = slice_get_within chain.blocks 0 joined.genesis joined.first;
  genesis = subst (λ (first : Option Block). IfSome first (λ block. block.header.number ≡ 0)) (sym joined.first) (first-number joined.genesis joined.good);
}

-- ---- A report that is printed whole

abbrev Judged : Status → Type 0
Judged status = IsOneOf (Done ∷ SomeRefused ∷ []) status

-- the input was read to its end
early : (offset : ℕ) (end : End) → (end ≡ ends.AtEnd → ⊥) → Judged (report_of_end offset end).status → ⊥
early offset ends.AtEnd other judged = other refl
early offset ends.Cut other (inl is) = absurd (cc)
early offset ends.Cut other (inr (inl is)) = absurd (cc)
early offset ends.Cut other (inr (inr never)) = never
early offset ends.BadSize other (inl is) = absurd (cc)
early offset ends.BadSize other (inr (inl is)) = absurd (cc)
early offset ends.BadSize other (inr (inr never)) = never
early offset ends.Extra other (inl is) = absurd (cc)
early offset ends.Extra other (inr (inl is)) = absurd (cc)
early offset ends.Extra other (inr (inr never)) = never

module _ (what_joined : StandsForWhatJoined) (breaks_few : BreaksFew) (unbroken_is_joined : UnbrokenIsJoined) (kept_is_in_range : KeptIsInRange) where
  module _ (chain : Chain) (is_founded : IsFounded chain.blocks) (in_range : IsInRange chain) (room : length chain.blocks < kept_limit) where
    abbrev Tells : Report → Type 0
    Tells said = EndsInBlock chain (text_of said) ⊎ EndsInNoBlock (text_of said)

    -- by the rule that the block breaks
    by-broken : (witness : CellbaseWitness) (items : List (List ℕ)) (broken : Option ℕ) → IsTrue (cellbase_witness.encoding witness).fits
        → (assembled chain witness items).broken ≡ broken → Tells (report_of_assembled (assembled chain witness items))
    by-broken witness items None fits is =
        let all = assembled chain witness items in
        inl (record {
          bytes = encoded schema.block all.block;
          joined = ap (λ (v : Verdict). joins v) (unbroken_is_joined chain witness items all.block
              (record { founded = is_founded; in_range = in_range; room = room; witness_fits = fits; unbroken = is }) refl);
          last = (concat (map pool_line all.lines), ap (λ (broken : Option ℕ). text_of (report_of_assembled (record all { broken = broken }))) is);
        })
    by-broken witness items (Some rule) fits is =
        let all = assembled chain witness items in
        inr (record {
          rule = rule;
          breakable_by = breaks_few chain witness items rule is_founded is;
          last = (concat (map pool_line all.lines), ap (λ (broken : Option ℕ). text_of (report_of_assembled (record all { broken = broken }))) is);
        })

    by-witness : (first : List ℕ) (found : Option CellbaseWitness) (items : List (List ℕ)) → decoded cellbase_witness first ≡ found
        → Tells (report_with_witness chain found items)
    by-witness first None items is = inr (record { rule = 17; breakable_by = refl; last = ([], refl) })
    by-witness first (Some witness) items is =
        by-broken witness items (assembled chain witness items).broken (IsEncoding-decoded cellbase_witness first witness is).fits refl

    by-items : (items : List (List ℕ)) → Judged (report_of_assembly chain items).status → Tells (report_of_assembly chain items)
    by-items [] (inl is) = absurd (cc)
    by-items [] (inr (inl is)) = absurd (cc)
    by-items [] (inr (inr never)) = absurd never
    by-items (first ∷ items) judged = by-witness first (decoded cellbase_witness first) items refl

    by-end : (items : List (List ℕ)) (offset : ℕ) (end : End) → Judged (report_at_end (report_of_assembly chain items) offset end).status
        → Tells (report_at_end (report_of_assembly chain items) offset end)
    by-end items offset ends.AtEnd judged = by-items items judged
    by-end items offset ends.Cut judged = absurd (early offset ends.Cut (λ is. absurd (cc)) judged)
    by-end items offset ends.BadSize judged = absurd (early offset ends.BadSize (λ is. absurd (cc)) judged)
    by-end items offset ends.Extra judged = absurd (early offset ends.Extra (λ is. absurd (cc)) judged)

  pub what-is-assembled-joins : WhatIsAssembledJoins
  what-is-assembled-joins chain image input said stands target room is judged =
      let split = split_of (question_limits Assemble) input in
      let told = by-end chain (founded chain (what_joined.0 chain image stands)) (kept_is_in_range chain image stands target) room split.items (end_offset split) (end_of_whole 1 split)
      (subst (λ (r : Report). Judged r.status) is judged) in
      subst (λ (r : Report). EndsInBlock chain (text_of r) ⊎ EndsInNoBlock (text_of r)) (sym is) told
