-- The record at a place is the one that the definition reads in the lines from there. Assumes nothing.
use Prim.Native.Nat.{ℕ, suc, ◌+◌, ◌-◌, ◌≤◌, ◌<◌}
use mathlib.Core.Path.{◌≡◌, refl, ap, ◌∙◌}
use mathlib.Core.List.{List, [], ◌∷◌}
use mathlib.Core.Bool.{Bool, true, false, cond}
use mathlib.Core.Option.{Option, none, some}
use native.Mathlib.Omega.{arith}
use lib.Dec.{leb, ltb}
use lib.ListN.{length, take, drop, length-drop, drop_of_length-le}
use borrow.Author.Tests.{ltb-true, ltb-false, leb-true, leb-false}
use Rattle.model.specs.Bytes.{Bytes}
use Rattle.model.proofs.Basics.{some_none}
use Rattle.lines.specs.Hex.{hexed, bytes_of}
use Rattle.lines.specs.Lines.{Line, whole, cut, lines, starts, said}
use Rattle.lines.specs.Places.{Part, text_at, past, line_len, value_at, Told, told, bind}
use Rattle.lines.proofs.LineLaws.{first_line, no_first_line, stands, no_said}
use Rattle.lines.proofs.PlaceLaws.{told_none, if_none}
use Rattle.small_records.specs.Records.{op_key, path_key, kind_key, id_key, Verb, verb_of, Op, op_of, good_id, edit_of, Stage, at_op, at_path, at_kind, at_id, wrong, step, Read, bad, good, more, ended, stepped, read}
use Rattle.small_records.specs.Places.{op_at, path_at, kind_at, id_at, record_found, Next, nothing, broken, found, or_broken, next_at}
use Rattle.small_records.proofs.NextLaws.{op_parts, path_parts, kind_parts, id_parts}

-- The key that a stage asks for
abbrev key_of : Stage → Bytes
key_of at_op = op_key
key_of (at_path o) = path_key
key_of (at_kind o p) = kind_key
key_of (at_id k p) = id_key

step_wrong : (w : ℕ) (st : Stage) (l : Bytes) → said (key_of st) l ≡ none → step w st l ≡ wrong
unfolding step
step_wrong w at_op l e = rw e
step_wrong w (at_path o) l e = rw e
step_wrong w (at_kind o p) l e = rw e
step_wrong w (at_id k p) l e = rw e

module _ (w n : ℕ) (s : Bytes) (at : ℕ) where
  -- the lines from here on, once the first is known
  read_end : (st : Stage) → length s ≤ at → read w n (lines (drop at s)) st ≡ ended n st
  unfolding read lines
  read_end st h = rw (drop_of_length-le s h)

  read_cut : (st : Stage) {ls : List Line} → lines (drop at s) ≡ cut ∷ ls → read w n (lines (drop at s)) st ≡ bad n
  unfolding read
  read_cut st e = rw e

  pub read_line : (st : Stage) {l : Bytes} {ls : List Line} → lines (drop at s) ≡ whole l ∷ ls → read w n (lines (drop at s)) st ≡ stepped n (step w st l) (λ t. read w (suc n) ls t)
  unfolding read
  read_line st e = rw e

  pub no_line : (st : Stage) → (length s ≤ at → ended n st ≡ bad n) → value_at (key_of st) s at ≡ none → read w n (lines (drop at s)) st ≡ bad n
  unfolding value_at
  no_line st miss e = go (leb (length s) at) refl (ltb (line_len s at) (length (drop at s))) refl (starts (key_of st) (take (line_len s at) (drop at s))) refl e
    where
      go : (x : Bool) → leb (length s) at ≡ x → (t : Bool) → ltb (line_len s at) (length (drop at s)) ≡ t → (u : Bool) → starts (key_of st) (take (line_len s at) (drop at s)) ≡ u →
          ◌≡◌ {A = Option Part} (cond t (cond u (some (record { at = at + length (key_of st); len = line_len s at - length (key_of st) })) none) none) none → read w n (lines (drop at s)) st ≡ bad n
      go true x t f u g q = let h = leb-true (length s) at x in read_end st h ∙ miss h
      go false x false f u g q =
          read_cut st (no_first_line (drop at s) (omega (arith, leb-false (length s) at x, length-drop at s)) (ltb-false (line_len s at) (length (drop at s)) f))
      go false x true f false g q =
          read_line st (first_line (drop at s) (ltb-true (line_len s at) (length (drop at s)) f))
          ∙ rw (step_wrong w st (take (line_len s at) (drop at s)) (no_said (key_of st) s at (take (line_len s at) (drop at s)) g))
      go false x true f true g q = some_none (record { at = at + length (key_of st); len = line_len s at - length (key_of st) }) q

  -- each of the four lines, good or not
  pub op_good : {t : Told Verb} → op_at s at ≡ some t → read w n (lines (drop at s)) at_op ≡ read w (suc n) (lines (drop t.next s)) (at_path t.what)
  unfolding step
  op_good {t} e =
      let (p, x, (y, z)) = op_parts s at e in
      let d = stands op_key s at x in
      read_line at_op d.first ∙ rw (d.says, y) (ap (λ (j : ℕ). read w (suc n) (lines (drop j s)) (at_path t.what)) z)

  pub op_bad : at < length s → op_at s at ≡ none → read w n (lines (drop at s)) at_op ≡ bad n
  unfolding step op_at
  op_bad h e = go (value_at op_key s at) refl e
    where
      go : (o : Option Part) → value_at op_key s at ≡ o → bind o (λ p. told (verb_of (text_at s p)) (past p)) ≡ none → read w n (lines (drop at s)) at_op ≡ bad n
      go none x q = no_line at_op (λ g. absurd (omega arith)) x
      go (some p) x q =
          let d = stands op_key s at x in
          read_line at_op d.first ∙ rw (d.says, told_none (verb_of (text_at s p)) (past p) q)

  pub path_good : (o : Verb) {p : Part} → path_at s at ≡ some p → read w n (lines (drop at s)) (at_path o) ≡ read w (suc n) (lines (drop (past p) s)) (at_kind o (bytes_of (text_at s p)))
  unfolding step
  path_good o {p} e =
      let (x, y) = path_parts s at e in
      let d = stands path_key s at x in
      read_line (at_path o) d.first ∙ rw (d.says, y)

  pub path_bad : (o : Verb) → path_at s at ≡ none → read w n (lines (drop at s)) (at_path o) ≡ bad n
  unfolding step path_at
  path_bad o e = go (value_at path_key s at) refl e
    where
      go : (v : Option Part) → value_at path_key s at ≡ v → bind v (λ p. cond (hexed (text_at s p)) (some p) none) ≡ none → read w n (lines (drop at s)) (at_path o) ≡ bad n
      go none x q = no_line (at_path o) (λ g. refl) x
      go (some p) x q =
          let d = stands path_key s at x in
          read_line (at_path o) d.first ∙ rw (d.says, if_none (hexed (text_at s p)) p q)

  pub kind_good : (o : Verb) (b : Bytes) {t : Told Op} → kind_at s o at ≡ some t → read w n (lines (drop at s)) (at_kind o b) ≡ read w (suc n) (lines (drop t.next s)) (at_id t.what b)
  unfolding step
  kind_good o b {t} e =
      let (p, x, (y, z)) = kind_parts s at o e in
      let d = stands kind_key s at x in
      read_line (at_kind o b) d.first ∙ rw (d.says, y) (ap (λ (j : ℕ). read w (suc n) (lines (drop j s)) (at_id t.what b)) z)

  pub kind_bad : (o : Verb) (b : Bytes) → kind_at s o at ≡ none → read w n (lines (drop at s)) (at_kind o b) ≡ bad n
  unfolding step kind_at
  kind_bad o b e = go (value_at kind_key s at) refl e
    where
      go : (v : Option Part) → value_at kind_key s at ≡ v → bind v (λ p. told (op_of o (text_at s p)) (past p)) ≡ none → read w n (lines (drop at s)) (at_kind o b) ≡ bad n
      go none x q = no_line (at_kind o b) (λ g. refl) x
      go (some p) x q =
          let d = stands kind_key s at x in
          read_line (at_kind o b) d.first ∙ rw (d.says, told_none (op_of o (text_at s p)) (past p) q)

  pub id_good : (k : Op) (b : Bytes) {i : Part} → id_at w s k at ≡ some i →
      read w n (lines (drop at s)) (at_id k b) ≡ more (record { edit = edit_of k (text_at s i); path = b }) (read w (suc n) (lines (drop (past i) s)) at_op)
  unfolding step
  id_good k b {i} e =
      let (x, y) = id_parts s at w k e in
      let d = stands id_key s at x in
      read_line (at_id k b) d.first ∙ rw (d.says, y)

  pub id_bad : (k : Op) (b : Bytes) → id_at w s k at ≡ none → read w n (lines (drop at s)) (at_id k b) ≡ bad n
  unfolding step id_at
  id_bad k b e = go (value_at id_key s at) refl e
    where
      go : (v : Option Part) → value_at id_key s at ≡ v → bind v (λ p. cond (good_id w k (text_at s p)) (some p) none) ≡ none → read w n (lines (drop at s)) (at_id k b) ≡ bad n
      go none x q = no_line (at_id k b) (λ g. refl) x
      go (some p) x q =
          let d = stands id_key s at x in
          read_line (at_id k b) d.first ∙ rw (d.says, if_none (good_id w k (text_at s p)) p q)

-- What the definition reads from a place, once it is known what stands there
abbrev pub follow : ℕ → ℕ → Bytes → Next → Read
follow w n s nothing = good []
follow w n s (broken k) = bad (n + k)
follow w n s (found f) = more (record_found s f) (read w (n + 4) (lines (drop f.next s)) at_op)

module _ (w n : ℕ) (s : Bytes) (at : ℕ) where
  from_id : (k : Op) (p : Part) (m : ℕ) (i : Option Part) → id_at w s k m ≡ i →
      read w (suc (suc (suc n))) (lines (drop m s)) (at_id k (bytes_of (text_at s p)))
      ≡ follow w n s (or_broken 3 i (λ i. found (record { op = k; path = p; id = i; next = past i })))
  from_id k p m none e = id_bad w (suc (suc (suc n))) s m k (bytes_of (text_at s p)) e ∙ ap bad (omega arith)
  from_id k p m (some i) e =
      let q : suc (suc (suc (suc n))) ≡ n + 4 = omega arith in
      id_good w (suc (suc (suc n))) s m k (bytes_of (text_at s p)) e
      ∙ ap (λ (j : ℕ). more (record { edit = edit_of k (text_at s i); path = bytes_of (text_at s p) }) (read w j (lines (drop (past i) s)) at_op)) q

  from_kind : (v : Verb) (p : Part) (k : Option (Told Op)) → kind_at s v (past p) ≡ k →
      read w (suc (suc n)) (lines (drop (past p) s)) (at_kind v (bytes_of (text_at s p)))
      ≡ follow w n s (or_broken 2 k (λ k. or_broken 3 (id_at w s k.what k.next) (λ i. found (record { op = k.what; path = p; id = i; next = past i }))))
  from_kind v p none e = kind_bad w (suc (suc n)) s (past p) v (bytes_of (text_at s p)) e ∙ ap bad (omega arith)
  from_kind v p (some k) e =
      kind_good w (suc (suc n)) s (past p) v (bytes_of (text_at s p)) e ∙ from_id k.what p k.next (id_at w s k.what k.next) refl

  from_path : (o : Told Verb) (p : Option Part) → path_at s o.next ≡ p →
      read w (suc n) (lines (drop o.next s)) (at_path o.what)
      ≡ follow w n s (or_broken 1 p (λ p. or_broken 2 (kind_at s o.what (past p)) (λ k.
      or_broken 3 (id_at w s k.what k.next) (λ i. found (record { op = k.what; path = p; id = i; next = past i })))))
  from_path o none e = path_bad w (suc n) s o.next o.what e ∙ ap bad (omega arith)
  from_path o (some p) e = path_good w (suc n) s o.next o.what e ∙ from_kind o.what p (kind_at s o.what (past p)) refl

  pub next_reads : read w n (lines (drop at s)) at_op ≡ follow w n s (next_at w s at)
  unfolding next_at
  next_reads = go (leb (length s) at) refl (op_at s at) refl
    where
      go : (t : Bool) → leb (length s) at ≡ t → (o : Option (Told Verb)) → op_at s at ≡ o →
          read w n (lines (drop at s)) at_op ≡ follow w n s (cond t nothing (or_broken 0 o (λ o. or_broken 1 (path_at s o.next) (λ p.
          or_broken 2 (kind_at s o.what (past p)) (λ k. or_broken 3 (id_at w s k.what k.next) (λ i. found (record { op = k.what; path = p; id = i; next = past i })))))))
      go true e o x = read_end w n s at at_op (leb-true (length s) at e)
      go false e none x = op_bad w n s at (leb-false (length s) at e) x ∙ ap bad (omega arith)
      go false e (some o) x = op_good w n s at x ∙ from_path o (path_at s o.next) refl
