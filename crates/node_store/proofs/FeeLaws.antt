-- The exts of kept blocks that have joined keep their fees.
use Rattle.std.proofs.Common.{◌≡◌, ◌-◌, List, length, drop, Some, sym, ap, ◌∙◌}
use Rattle.std.specs.Prelude.{slice_get}
use Rattle.std.specs.Option.{option_map}
use Rattle.std.proofs.lemmas.List.{length-drop}
use Rattle.std.proofs.lemmas.Option.{slice_get-map}
use Rattle.chain_defs.specs.Kept.{block_at}
use Rattle.chain_defs.specs.Branch.{branch}
use Rattle.rule_defs.specs.Capacity.{fees_from}
use Rattle.chain_tree.specs.Told.{Stored, blocks_of}
use Rattle.verdict_defs.specs.Chain.{Chain}
use Rattle.store_defs.proofs.ExtLemmas.{length-fees_from}
use Rattle.store_defs.proofs.FeeLaws.{exts-hold-fees}
use Rattle.node_store.specs.Kept.{exts_of}
use Rattle.node_store.specs.Fees.{ExtsKeepFees}

pub exts-keep-fees : ExtsKeepFees
exts-keep-fees spec stored kept counted place parent it above there on =
    (counted place it above there ∙ sym as-many, exts-hold-fees chain (exts_of stored) place parent it.block it.ext kept.joined kept.own above here beside on)
  where
    chain : Chain
    chain = record { spec = spec; blocks = blocks_of stored }

    here : block_at (blocks_of stored) place ≡ Some it.block
    here = slice_get-map (λ (x : Stored). x.block) stored place ∙ ap (option_map (λ (x : Stored). x.block)) there

    beside : slice_get (exts_of stored) place ≡ Some it.ext
    beside = slice_get-map (λ (x : Stored). x.ext) stored place ∙ ap (option_map (λ (x : Stored). x.ext)) there

    -- their count is that of the block's transactions, which the exts count
    as-many : length (fees_from spec (branch (blocks_of stored) parent) it.block 1 (drop 1 it.block.transactions)) ≡ length it.block.transactions - 1
    as-many =
        length-fees_from spec (branch (blocks_of stored) parent) it.block 1 (drop 1 it.block.transactions) ∙ length-drop 1 it.block.transactions
