-- `small_run::save::put_request` meets its contract: the request gives the path and the raw tree, and their lines stand behind each other. Assumes nothing.
use mathlib.Core.Path.{refl, ◌∙◌, subst}
use mathlib.Core.List.{[]}
use Rattle.std.specs.Prelude.{None}
use Rattle.model.specs.Bytes.{Bytes}
use Rattle.model.specs.Raw.{raw_tree}
use Rattle.editor.specs.Lent.{lent_seen}
use Rattle.lines.specs.Hex.{hex_of}
use Rattle.lines.specs.Texts.{line_of}
use Rattle.small_run.specs.Lesson.{tree_key, raw_key}
use Rattle.small_run.specs.Puts.{Puts}
use Rattle.small_run.proofs.PutLaws.{both_put, first_stops}
use Rattle.small_run.proofs.SaveLaws.{request_raw, request_place, request_there, request_lines_lem}
use Rattle.small_run.proofs.save.put_request.Goals as goal

pub returns : goal.returns
returns c =
    let a = c.args in
    let v = lent_seen a.v a.order.now in
    λ h q.
    subst (λ (l : Bytes). Puts a.out.now a.to l c.put_hex_line-in-Ok.result c.put_hex_line-in-Ok.new.out)
    (request_lines_lem h c.front-path.result.now c.front.result.now (c.front-path.ensures ∙ request_place v c.requires.0 h q _ c.requires.1 _ c.request.ensures c.in-Ok.is) (c.front.ensures ∙ request_raw v c.requires.0 h q _ c.requires.1 _ c.request.ensures c.in-Ok.is))
    (both_put a.out.now a.to c.requires.2 (line_of tree_key (hex_of c.front-path.result.now)) (line_of raw_key (hex_of c.front.result.now)) c.put_hex_line.result c.put_hex_line.new.out c.put_hex_line.ensures c.in_ok-next-in-Ok.was c.put_hex_line-in-Ok.result c.put_hex_line-in-Ok.new.out c.put_hex_line-in-Ok.ensures)

pub returns-in_err-next-in-Ok : goal.returns-in_err-next-in-Ok
returns-in_err-next-in-Ok c =
    let a = c.args in
    let v = lent_seen a.v a.order.now in
    λ h q.
    rw c.from_residual.ensures (subst (λ (l : Bytes). Puts a.out.now a.to l None [])
    (request_lines_lem h c.front-path.result.now (raw_tree h.held) (c.front-path.ensures ∙ request_place v c.requires.0 h q _ c.requires.1 _ c.request.ensures c.in-Ok.is) refl)
    (first_stops a.out.now a.to c.requires.2 (line_of tree_key (hex_of c.front-path.result.now)) (line_of raw_key (hex_of (raw_tree h.held))) c.put_hex_line.result c.put_hex_line.new.out c.put_hex_line.ensures c.in_err-next-in-Ok.was []))

pub unreachable-requires : goal.unreachable-requires
unreachable-requires c =
    let (h, q) = c.requires.3 in
    request_there (lent_seen c.args.v c.args.order.now) c.requires.0 h q _ c.requires.1 _ c.request.ensures c.in-Err.is
