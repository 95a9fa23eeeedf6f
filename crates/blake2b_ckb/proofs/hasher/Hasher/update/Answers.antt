use Rattle.std.proofs.Common.{◌≡◌, ℕ, List, ◌++◌, ◌+◌, ◌-◌, ◌*◌, ◌/◌, length, take, drop, arith, refl, ap, sym, ◌∙◌}
use Rattle.std.proofs.lemmas.List.{append_assoc, length-take-le, take-append-drop, take_at, take_rest}
use Rattle.blake2b_ckb.proofs.Absorbing.{Holds_fill, Holds_short, IsWhole_block, IsWhole_rest, kept_more}
use Rattle.blake2b_ckb.proofs.hasher.Hasher.update.Goals as goal

pub returns-then-piece-room : goal.returns-then-piece-room
returns-then-piece-room c = λ m held.
    let before = rw (← c.self.view_is) at held in
    rw (kept_more c.self.inside.used _ c.self.inside.buffer _ c.args.piece.now (omega arith) c.copy_from_slice.ensures.after)
    (Holds_short _ m c.args.piece.now before (omega (arith, length-take-le c.self.inside.used c.self.inside.buffer (omega arith))))

pub whole_blocks-init : goal.whole_blocks-init
whole_blocks-init c = λ m held.
    let room : ℕ = 128 - c.self.inside.used in
    Holds_fill _ m c.self.inside.buffer _ (take room c.args.piece.now) _ c.split_at.result.1.now c.self.inside.used room
    (rw (← c.self.view_is) at held) refl (omega arith) c.self.invariant refl
    (c.copy_from_slice-2.ensures.after ∙ c.split_at.ensures.front) (length-take-le room c.args.piece.now (omega arith)) c.compress.ensures

pub whole_blocks-preserved : goal.whole_blocks-preserved
whole_blocks-preserved c = λ m held.
    let i : ℕ = c.whole_blocks.i in
    let width : 128 * (i + 1) - 128 * i ≡ 128 = omega arith in
    IsWhole_block _ _ (m ++ take (128 - c.self.inside.used) c.args.piece.now) c.split_at.result.1.now _ _ ((length m - 1) / 128 + 1) i
    (c.whole_blocks.invariant m held) (omega arith) (rw width refl) c.compress-in-whole_blocks.ensures

pub returns : goal.returns
returns c = λ m held.
    let room : ℕ = 128 - c.self.inside.used in
    let rest : List ℕ = c.split_at.result.1.now in
    let i : ℕ = c.whole_blocks.i in
    let done : (length rest - 1) / 128 ≡ i = omega arith in
    let written = c.copy_from_slice-3.ensures.after ∙ take_rest rest (128 * ((length rest - 1) / 128)) ∙ ap (λ (k : ℕ). drop (128 * k) rest) done in
    let message : m ++ c.args.piece.now ≡ (m ++ take room c.args.piece.now) ++ rest =
    sym (append_assoc m (take room c.args.piece.now) rest
    ∙ rw c.split_at.ensures.back (ap (λ (x : List ℕ). m ++ x) (take-append-drop room c.args.piece.now))) in
    IsWhole_rest _ _ (m ++ take room c.args.piece.now) rest _ _ ((length m - 1) / 128 + 1) i (c.whole_blocks.invariant m held) (omega arith) (sym done)
    (take_at _ _ _ (ap length c.copy_from_slice-3.ensures.after) ∙ written) message
