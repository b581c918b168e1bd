-- `editor::cursor::at` meets its contract: a path that is short enough is the front of the bytes. Assumes nothing.
use mathlib.Core.Path.{◌≡◌, ap, ◌∙◌}
use lib.ListN.{take, length}
use native.Mathlib.Omega.{arith}
use Rattle.names.proofs.WriteLaws.{splice_front}
use Rattle.editor.proofs.CursorLaws.{standing_at, standing_root, cursor_root, cursor_made}
use Rattle.editor.proofs.cursor.at.Goals as goal

pub returns-then-path-gt-PATH : goal.returns-then-path-gt-PATH
returns-then-path-gt-PATH c =
    let path = c.args.path.now in
    (omega arith, standing_root path c.if-path-gt-PATH.true, cursor_root path c.if-path-gt-PATH.true)

pub returns : goal.returns
returns c =
    let path = c.args.path.now in
    let n : c.put-len.result ≡ length path = omega (arith, c.put-len.ensures.value) in (
      omega (arith, n, c.if-path-gt-PATH.false),
      ap (take c.put-len.result) c.put-len.ensures.out_after ∙ splice_front _ path c.put-len.result n ∙ standing_at path c.if-path-gt-PATH.false,
      cursor_made path _ c.put-len.result c.if-path-gt-PATH.false c.put-len.ensures.out_after n,
    )
