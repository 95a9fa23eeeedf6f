-- Each block of a chain that has joined can be taken back with its own ext.
use Rattle.std.proofs.Common.{◌≡◌, ◌<◌, List, length, map, take, Some, sym, ap, ◌∙◌, subst, arith}
use Rattle.std.specs.Prelude.{slice_get}
use Rattle.std.specs.Option.{option_map, option_and_then}
use Rattle.std.proofs.lemmas.Option.{slice_get-map, slice_get_within, same_Some}
use Rattle.chain_defs.specs.Schema.{Block}
use Rattle.chain_defs.specs.Kept.{block_at, place_of, parent_place}
use Rattle.chain_defs.specs.Branch.{branch}
use Rattle.chain_defs.proofs.BranchLaws.{parent_place-below}
use Rattle.chain_tree.specs.Told.{Stored}
use Rattle.chain_defs.specs.Ext.{Ext, ext_bytes}
use Rattle.chain_defs.specs.Row.{live_row}
use Rattle.verdict_defs.specs.Ext.{ext_of}
use Rattle.store_defs.specs.Store.{first_of, own_ext, ext_on}
use Rattle.store_defs.proofs.KeptLaws.{kept-exts-take-back}
use Rattle.cell_state.specs.Moves.{CanBeTakenBack}
use Rattle.cell_state.proofs.RowLemmas.{branch-some}
use Rattle.node_store.specs.ReorgLaws.{JoinedCanBeTakenBack}
use Rattle.node_store.proofs.FitLaws.{joined-exts-fit}

pub joined-can-be-taken-back : JoinedCanBeTakenBack
joined-can-be-taken-back chain stored same are canonical place parent it found named =
    subst (λ (kept : List Block). CanBeTakenBack it.block it.ext (live_row kept place) (live_row kept parent)) (sym same) (record {
      height = length (branch chain.blocks parent);
      above = let within = slice_get_within chain.blocks place it.block there in branch-some chain.blocks parent (omega (arith, below, within));
      ext = own;
      fits = joined-exts-fit chain are.joined canonical place parent it.block there on;
      bytes_are = bytes;
      comes_before = kept-exts-take-back chain place parent it.block are.joined there on;
    })
  where
    there : block_at chain.blocks place ≡ Some it.block
    there =
        sym (ap (λ (kept : List Block). block_at kept place) same) ∙ slice_get-map (λ (s : Stored). s.block) stored place
        ∙ ap (option_map (λ (s : Stored). s.block)) found

    on : parent_place chain.blocks place ≡ Some parent
    on = sym (ap (λ (kept : List Block). parent_place kept place) same) ∙ named

    below : parent < place
    below = parent_place-below chain.blocks place parent on

    beside : slice_get (map (λ (s : Stored). s.ext) stored) place ≡ Some it.ext
    beside = slice_get-map (λ (s : Stored). s.ext) stored place ∙ ap (option_map (λ (s : Stored). s.ext)) found

    own : Ext
    own = ext_of chain.spec (take place chain.blocks) parent it.block

    on_parent : place_of (take place chain.blocks) it.block.header.parent_hash ≡ Some parent
    on_parent = sym (ap (option_and_then (λ (x : Block). place_of (take place chain.blocks) x.header.parent_hash)) there) ∙ on

    bytes : ext_bytes own ≡ it.ext
    bytes =
        sym (ap (ext_on (first_of chain place) it.block) on_parent)
        ∙ same_Some (own_ext (first_of chain place) it.block) it.ext (sym (are.own.own place it.block (omega (arith, below)) there) ∙ beside)
