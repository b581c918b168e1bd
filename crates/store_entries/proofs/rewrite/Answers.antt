-- `store_entries::rewrite` meets its contract: the entry's bytes stand within the run. Assumes nothing.
use mathlib.Core.Path.{ap, ◌∙◌}
use Prim.Native.Nat.{ℕ, ◌+◌}
use native.Mathlib.Omega.{arith}
use Rattle.names.specs.Answers.{entry}
use Rattle.names_compact.specs.Compact.{packed}
use Rattle.names.specs.Splice.{splice}
use Rattle.store_runs.proofs.RunLaws.{total_within, splice_view}
use Rattle.store_entries.proofs.StoreLaws.{start_seen}
use Rattle.store_entries.proofs.rewrite.Goals as goal

pub overflow_add-a : goal.overflow_add-a
overflow_add-a c = omega (arith, (start_seen _ _ _ _ c.view.ensures c.start.ensures), total_within c.args.s.now.tlens.now c.args.slot c.requires.1, c.requires.0.sum, c.requires.2, c.requires.0.fits)

pub put_at-requires-clause-room : goal.put_at-requires-clause-room
put_at-requires-clause-room c = omega (arith, (start_seen _ _ _ _ c.view.ensures c.start.ensures), total_within c.args.s.now.tlens.now c.args.slot c.requires.1, c.requires.0.sum, c.requires.2, c.requires.0.fits)

pub returns-clause-view : goal.returns-clause-view
returns-clause-view c =
    let a = c.args in
    let s = c.args.s.now in
    let g = a.given in
    let e = packed (entry g.kind g.name.now g.id.now) in
    splice_view s.tlens.now s.trees.now s.ed.trees a.slot c.requires.0 c.requires.1 a.at e _ c.requires.2
    (c.put_at.ensures.out_after ∙ ap (λ (x : ℕ). splice s.trees.now (x + a.at) e) (start_seen _ _ _ _ c.view.ensures c.start.ensures))
