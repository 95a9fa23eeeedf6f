use Rattle.std.proofs.Common.{◌≡◌, ◌∷◌, [], ◌++◌, ◌*◌, ◌+◌, ◌<◌, ◌^◌, List, ℕ, ap, ◌∙◌, length, map, arith}
use Rattle.std.specs.List.{concat}
use Rattle.std.specs.Int.{w64, to_le_bytes}
use Rattle.std.proofs.lemmas.List.{length_push}
use Rattle.std.proofs.lemmas.List.Elements.{All-same, All-push}
use Rattle.cell_state.proofs.ExtLemmas.{one_read_more}
use Rattle.cell_state.proofs.ext.read_fees.Goals as goal

pub fees-preserved : goal.fees-preserved
fees-preserved c =
    let i = c.fees.i in
    let grown : c.push.new.self.items ≡ c.fees.fees.items ++ c.u64_at.result ∷ [] = c.in_ok-push.ensures.items in
    record {
      count = ap length grown ∙ length_push c.fees.fees.items c.u64_at.result ∙ ap (λ (n : ℕ). n + 1) c.fees.invariant.count;
      bytes = ap (λ (l : List ℕ). concat (map (to_le_bytes w64) l)) grown
          ∙ one_read_more (to_le_bytes w64) c.fees.fees.items c.u64_at.result c.args.bytes.now (8 * i) 8 (8 * (i + 1)) (omega arith) c.fees.invariant.bytes c.u64_at.ensures.bytes;
      fits = All-same (λ fee. fee < 2 ^ 64) _ _ grown (All-push (λ fee. fee < 2 ^ 64) c.fees.fees.items c.u64_at.result c.fees.invariant.fits (omega arith));
    }
