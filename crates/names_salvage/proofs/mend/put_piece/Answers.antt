-- `names_salvage::mend::put_piece` meets its contract: the entry's own bytes, from its mode to the end of its id, are its raw form. Assumes nothing.
use mathlib.Core.Path.{ap, ap₂, ◌∙◌}
use Prim.Native.Nat.{ℕ, ◌-◌}
use native.Mathlib.Omega.{arith}
use lib.ListN.{length, drop}
use Rattle.names_salvage.proofs.PutLaws.{has_end, piece_long, piece_bytes, put_as_lem}
use Rattle.names_salvage.proofs.mend.put_piece.Goals as goal

pub unreachable-requires : goal.unreachable-requires
unreachable-requires c = let p = c.requires in has_end p.1 p.2 (c.after.ensures ∙ ap (λ (k : ℕ). drop k c.args.raw.now) c.name_at-name_at.ensures) c.in_default.ensures

pub overflow_add-len-4 : goal.overflow_add-len-4
overflow_add-len-4 c =
    let p = c.requires in
    omega (arith, piece_long p.1 p.2 (c.after.ensures ∙ ap (λ (k : ℕ). drop k c.args.raw.now) c.name_at-name_at.ensures) c.in-Some.ensures.0 c.mode_len-mode_len.ensures, p.3)

pub put-requires : goal.put-requires
put-requires c =
    let p = c.requires in
    let there = c.after.ensures ∙ ap (λ (k : ℕ). drop k c.args.raw.now) c.name_at-name_at.ensures in
    omega (arith, ap length (c.between.ensures ∙ piece_bytes p.1 p.2 there c.in-Some.ensures.0 c.mode_len-mode_len.ensures (ap₂ (λ (a b : ℕ). a - 1 - b) c.name_at-name_at.ensures c.mode_len-mode_len.ensures)), p.3)

pub returns : goal.returns
returns c =
    let there = c.after.ensures ∙ ap (λ (k : ℕ). drop k c.args.raw.now) c.name_at-name_at.ensures in
    λ e st wide.
    put_as_lem
    (c.between.ensures ∙ piece_bytes st wide there c.in-Some.ensures.0 c.mode_len-mode_len.ensures (ap₂ (λ (a b : ℕ). a - 1 - b) c.name_at-name_at.ensures c.mode_len-mode_len.ensures))
    c.args.to c.args.out.now
    (c.put.ensures.value, c.put.ensures.out_after)
