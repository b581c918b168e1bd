-- Laws of a new root: its sizes alone decide whether it fits, since nothing else is cached then. Assumes nothing.
use Prim.Native.Nat.{ℕ, ◌+◌, ◌≤◌, ◌<◌}
use mathlib.Core.Path.{◌≡◌, refl, sym, ap, ◌∙◌, subst}
use mathlib.Core.Bool.{Bool, true, false, not}
use mathlib.Core.List.{List, [], ◌∷◌, ◌++◌}
use mathlib.Core.Option.{Option, none, some}
use Rattle.std.specs.Prelude.{Option as Opt, None}
use native.Mathlib.Omega.{arith}
use borrow.Author.Tests.{le-leb, lt-leb, eqb-true, eqb-false}
use lib.Dec.{eqb}
use lib.ListN.{length, take, drop, length-append}
use lib.Seq.{take_at, drop_at}
use Rattle.model.specs.Bytes.{Bytes}
use Rattle.model.specs.Map.{find, put, is_some}
use Rattle.model.specs.Tree.{Tree, name_bytes}
use Rattle.model.specs.Raw.{read_tree}
use Rattle.model.specs.Editor.{at, Cache, Write, fits}
use Rattle.model.specs.Editor.{Editor as Model}
use Rattle.model.specs.Formats.{sha1}
use Rattle.model.specs.Calls.{Answer, refuse_if, root_only, rooted, set_root}
use Rattle.model.specs.Valid.{valid}
use Rattle.model.proofs.CallsKeep.{fresh_valid}
use Rattle.names.specs.Check.{size_of}
use Rattle.names.specs.Answers.{checked_as}
use Rattle.names.specs.declared.tree.Size.{Size}
use Rattle.store_runs.specs.Digits.{digits}
use Rattle.store_runs.specs.Runs.{cut}
use Rattle.store_slots.specs.View.{slots_of, gather, held_as, held_at, view_of, aside_of, stacked_of, write_of, editor_of, Laid, Holds, SameWrite, tree_room, fresh}
use Rattle.store_slots.specs.declared.Record.{Record}
use Rattle.store_trees.proofs.Loads.{takes, as_many, as_long}
use Rattle.editor_walk.proofs.LandLaws.{size_none}
use Rattle.store_check.specs.Decides.{Decides}
use Rattle.store_check.proofs.Deciding as deciding
use Rattle.store_check.proofs.StoredLaws.{sha1_width, sha1_room}
use Rattle.editor.specs.Lent.{Lent, lent, Long, Good, viewed, Behind, Still, Does}
use Rattle.editor.specs.Roots.{Roots, Makes}
use Rattle.editor.proofs.EditLaws.{no_writing}

-- ---- the room that a root takes

abbrev pub alone : Tree → Cache
alone t = record { path = []; held = t } ∷ []

pub one_fits : (t : Tree) → length t ≤ 1024 → name_bytes t ≤ 16384 → fits (alone t) ≡ true
unfolding fits
one_fits t h k = rw (le-leb (length t + 0) 1024 (omega (arith, h)), le-leb (name_bytes t + 0) 16384 (omega (arith, k))) refl

too_many : (t : Tree) → 1024 < length t → fits (alone t) ≡ false
unfolding fits
too_many t h = rw (lt-leb (length t + 0) 1024 (omega (arith, h))) refl

too_long : (t : Tree) → length t ≤ 1024 → 16384 < name_bytes t → fits (alone t) ≡ false
unfolding fits
too_long t h k = rw (le-leb (length t + 0) 1024 (omega (arith, h)), lt-leb (name_bytes t + 0) 16384 (omega (arith, k))) refl

pub root_fits : (p : Bytes) (t : Tree) (v : Cache) → p ≡ [] → v ≡ [] → length t ≤ 1024 → name_bytes t ≤ 16384 → fits (put at (held_as p t) v) ≡ true
root_fits p t v e f h k = ap (λ (x : Cache). fits (put at (held_as p t) x)) f ∙ ap (λ (x : Bytes). fits (held_as x t ∷ [])) e ∙ one_fits t h k

pub no_root_yet : (p : Bytes) (v : Cache) → v ≡ [] → find at p v ≡ none
no_root_yet p v e = ap (find at p) e

pub root_cached : (p : Bytes) (t : Tree) (u v : Cache) → u ≡ put at (held_as p t) v → p ≡ [] → v ≡ [] → u ≡ alone t
root_cached p t u v e f g = e ∙ ap (put at (held_as p t)) g ∙ ap (λ (x : Bytes). held_as x t ∷ []) f

-- ---- the model's answer

rooted_not : (E : Model) (t : Tree) → fits (alone t) ≡ false → record { code = 5; editor = E } ≡ rooted E (some t)
unfolding rooted root_only refuse_if
rooted_not E t e = sym (ap (λ (b : Bool). refuse_if (not b) 5 E (record { code = 0; editor = root_only t })) e)

rooted_well : (E : Model) (t : Tree) → fits (alone t) ≡ true → record { code = 0; editor = root_only t } ≡ rooted E (some t)
unfolding rooted root_only refuse_if
rooted_well E t e = sym (ap (λ (b : Bool). refuse_if (not b) 5 E (record { code = 0; editor = root_only t })) e)

rooted_none : (E : Model) → record { code = 12; editor = E } ≡ rooted E none
unfolding rooted
rooted_none E = refl

refuse_code : (b : Bool) (E F : Model) → (refuse_if b 5 E (record { code = 0; editor = F })).code ≤ 12
unfolding refuse_if
refuse_code true E F = omega arith
refuse_code false E F = omega arith

rooted_code : (E : Model) (o : Option Tree) → (rooted E o).code ≤ 12
unfolding rooted
rooted_code E none = omega arith
rooted_code E (some t) = refuse_code (not (fits (root_only t).cached)) E (root_only t)

refuse_five : (b : Bool) (E F : Model) → ((refuse_if b 5 E (record { code = 0; editor = F })).code ≡ 0 → ⊥) → Still (refuse_if b 5 E (record { code = 0; editor = F })).code
unfolding refuse_if
refuse_five true E F n = omega arith
refuse_five false E F n = absurd (n refl)

rooted_five : (E : Model) (o : Option Tree) → ((rooted E o).code ≡ 0 → ⊥) → Still (rooted E o).code
unfolding rooted
rooted_five E none n = omega arith
rooted_five E (some t) n = refuse_five (not (fits (root_only t).cached)) E (root_only t) n

-- ---- refusals leave each byte

stays : (raw : Bytes) (s : Lent) (code : ℕ) → record { code = code; editor = viewed s } ≡ rooted (viewed s) (read_tree 20 raw) → (code ≡ 0 → ⊥) → Roots raw s code s
stays raw s code e n =
    record {
      is = e;
      good = λ z. absurd (n z);
      behind = record { plens = refl; paths = refl; tlens = refl; trees = refl; order = refl };
      kept = λ h. refl;
    }

pub no_root : (raw : Bytes) (s : Lent) (r : Opt Size) → checked_as r ≡ size_of (read_tree 20 raw) → r ≡ None → Roots raw s 12 s
no_root raw s r e f = stays raw s 12 (rooted_none (viewed s) ∙ sym (ap (rooted (viewed s)) (size_none (read_tree 20 raw) (sym (ap checked_as f) ∙ e)))) (λ z. omega (arith, z))

module _ (raw : Bytes) (s : Lent) (n m : ℕ) (size : size_of (read_tree 20 raw) ≡ some (record { entries = n; bytes = m })) where
  abbrev root : Tree
  root = (takes 20 raw n m size).tree

  reads : read_tree 20 raw ≡ some root
  reads = (takes 20 raw n m size).reads

  pub many_entries : 1024 < n → Roots raw s 5 s
  many_entries h = stays raw s 5 (rooted_not (viewed s) root (too_many root (omega (arith, h, as_many 20 raw n m size root reads))) ∙ sym (ap (rooted (viewed s)) reads)) (λ z. omega (arith, z))

  pub many_names : n ≤ 1024 → 16384 < m → Roots raw s 5 s
  many_names k h = stays raw s 5 (rooted_not (viewed s) root (too_long root (omega (arith, k, as_many 20 raw n m size root reads)) (omega (arith, h, as_long 20 raw n m size root reads))) ∙ sym (ap (rooted (viewed s)) reads)) (λ z. omega (arith, z))

  pub root_done : n ≤ 1024 → m ≤ 16384 → (z : Lent) → Behind s z → ((t : Tree) → read_tree 20 raw ≡ some t → Good z × (viewed z ≡ root_only t)) → Roots raw s 0 z
  root_done k h z b g =
      let w : Good z × (viewed z ≡ root_only root) = g root reads in
      record {
        is =
            ap (λ (E : Model). record { code = 0; editor = E }) w.1
            ∙ rooted_well (viewed s) root (one_fits root (omega (arith, k, as_many 20 raw n m size root reads)) (omega (arith, h, as_long 20 raw n m size root reads)))
            ∙ sym (ap (rooted (viewed s)) reads);
        good = λ e. w.0;
        behind = b;
        kept = λ f. absurd (omega (arith, f));
      }

-- ---- the fronts put back before what lies behind them

module _ (q : Record) (e₁ e₂ e₃ e₄ p₁ p₂ p₃ p₄ order : List ℕ) (l₁ : length p₁ ≡ 64) (l₂ : length p₂ ≡ 8192) (l₃ : length p₃ ≡ 64) (l₄ : length p₄ ≡ 38912) where
  abbrev pub back : Lent
  back = lent q (p₁ ++ drop 64 e₁) (p₂ ++ drop 8192 e₂) (p₃ ++ drop 64 e₃) (p₄ ++ drop 38912 e₄) order

  pub back_view : viewed back ≡ editor_of 20 q p₁ p₂ p₃ p₄ (take 64 order)
  back_view =
      ap (λ (x : List ℕ). editor_of 20 q x (take 8192 (p₂ ++ drop 8192 e₂)) (take 64 (p₃ ++ drop 64 e₃)) (take 38912 (p₄ ++ drop 38912 e₄)) (take 64 order)) (take_at p₁ (drop 64 e₁) 64 l₁)
      ∙ ap (λ (x : List ℕ). editor_of 20 q p₁ x (take 64 (p₃ ++ drop 64 e₃)) (take 38912 (p₄ ++ drop 38912 e₄)) (take 64 order)) (take_at p₂ (drop 8192 e₂) 8192 l₂)
      ∙ ap (λ (x : List ℕ). editor_of 20 q p₁ p₂ x (take 38912 (p₄ ++ drop 38912 e₄)) (take 64 order)) (take_at p₃ (drop 64 e₃) 64 l₃)
      ∙ ap (λ (x : List ℕ). editor_of 20 q p₁ p₂ p₃ x (take 64 order)) (take_at p₄ (drop 38912 e₄) 38912 l₄)

  pub back_good : 64 ≤ length order → Holds sha1 q p₁ p₂ p₃ p₄ (take 64 order) → Good back
  back_good o h =
      record {
        plens_room = omega (arith, length-append p₁ (drop 64 e₁), l₁);
        paths_room = omega (arith, length-append p₂ (drop 8192 e₂), l₂);
        tlens_room = omega (arith, length-append p₃ (drop 64 e₃), l₃);
        trees_room = omega (arith, length-append p₄ (drop 38912 e₄), l₄, sha1_room);
        order_room = o;
        holds =
            subst (λ (x : List ℕ). Holds sha1 q x (take 8192 (p₂ ++ drop 8192 e₂)) (take 64 (p₃ ++ drop 64 e₃)) (take (tree_room sha1.width) (p₄ ++ drop 38912 e₄)) (take 64 order)) (sym (take_at p₁ (drop 64 e₁) 64 l₁))
            (subst (λ (x : List ℕ). Holds sha1 q p₁ x (take 64 (p₃ ++ drop 64 e₃)) (take (tree_room sha1.width) (p₄ ++ drop 38912 e₄)) (take 64 order)) (sym (take_at p₂ (drop 8192 e₂) 8192 l₂))
            (subst (λ (x : List ℕ). Holds sha1 q p₁ p₂ x (take (tree_room sha1.width) (p₄ ++ drop 38912 e₄)) (take 64 order)) (sym (take_at p₃ (drop 64 e₃) 64 l₃))
            (subst (λ (x : List ℕ). Holds sha1 q p₁ p₂ p₃ x (take 64 order)) (sym (take_at p₄ (drop 38912 e₄) (tree_room sha1.width) (l₄ ∙ sym sha1_room))) h)));
      }

  pub back_behind : (ed : Record) → Behind (lent ed e₁ e₂ e₃ e₄ order) back
  back_behind ed =
      record {
        plens = drop_at p₁ (drop 64 e₁) 64 l₁;
        paths = drop_at p₂ (drop 8192 e₂) 8192 l₂;
        tlens = drop_at p₃ (drop 64 e₃) 64 l₃;
        trees = drop_at p₄ (drop 38912 e₄) 38912 l₄;
        order = refl;
      }

-- ---- the store with the root alone

module _ (q : Record) (plens paths tlens trees : List ℕ) (t : Tree) (l : Laid 20 q plens paths tlens trees) (h : q.hidden ≡ q.free) (o : SameWrite fresh q)
    (v : view_of 20 q plens paths tlens trees ≡ alone t) (order : List ℕ) where
  pub root_view : editor_of 20 q plens paths tlens trees order ≡ root_only t
  unfolding root_only
  root_view =
      let wr : Option Write = write_of q.«open» (held_at 20 plens paths tlens trees q.asked) (aside_of 20 q plens paths tlens trees order) (stacked_of 20 q plens paths tlens trees order) in
      let w : wr ≡ none = no_writing q.«open» (held_at 20 plens paths tlens trees q.asked) (aside_of 20 q plens paths tlens trees order) (stacked_of 20 q plens paths tlens trees order) o.«open» in
      ap (λ (n : ℕ). record { cached = gather (slots_of 20 (digits 64 n) (cut plens paths) (cut tlens trees)); writing = wr }) h
      ∙ ap (λ (c : Cache). record { cached = c; writing = wr }) v
      ∙ ap (λ (x : Option Write). record { cached = alone t; writing = x }) w

  valid_root : (raw : Bytes) → read_tree 20 raw ≡ some t → fits (alone t) ≡ true → valid sha1 (root_only t) ≡ true
  unfolding root_only
  valid_root raw e f = fresh_valid sha1 raw t (ap (λ (w : ℕ). read_tree w raw) sha1_width ∙ e) f

  pub root_holds : length order ≡ 64 → (raw : Bytes) → read_tree 20 raw ≡ some t → fits (alone t) ≡ true → Holds sha1 q plens paths tlens trees order
  root_holds k raw e f =
      record {
        laid = subst (λ (w : ℕ). Laid w q plens paths tlens trees) (sym sha1_width) l;
        ordered = record {
          order_64 = k;
          closed = λ z. record { hidden = h; aside = o.aside; stacked = o.stacked; asked = o.asked };
          opened = λ z. absurd (z o.«open»);
        };
        valid = ap (λ (w : ℕ). valid sha1 (editor_of w q plens paths tlens trees order)) sha1_width ∙ ap (valid sha1) root_view ∙ valid_root raw e f;
      }

-- ---- the calls

set_open : (raw : Bytes) (E : Model) → is_some E.writing ≡ true → record { code = 9; editor = E } ≡ set_root sha1 raw E
unfolding set_root refuse_if
set_open raw E e = sym (ap (λ (b : Bool). refuse_if b 9 E (rooted E (read_tree sha1.width raw))) e)

set_shut : (raw : Bytes) (E : Model) → is_some E.writing ≡ false → rooted E (read_tree 20 raw) ≡ set_root sha1 raw E
unfolding set_root refuse_if
set_shut raw E e = ap (λ (w : ℕ). rooted E (read_tree w raw)) (sym sha1_width) ∙ sym (ap (λ (b : Bool). refuse_if b 9 E (rooted E (read_tree sha1.width raw))) e)

module _ (raw : Bytes) (s : Lent) where
  pub makes_short : (b : Bool) → Decides (Long s) b → b ≡ false → Makes raw s 13 s
  makes_short b d e = record { refused = λ z. (deciding.refused d e, refl); done = λ n. absurd (n refl) }

  module _ (code : ℕ) (q : Lent) (r : Roots raw s code q) where
    below : code ≤ 12
    below = omega (arith, rooted_code (viewed s) (read_tree 20 raw), ap (λ (a : Answer). a.code) r.is)

    pub makes : Long s → Makes raw s code q
    makes l = record { refused = λ e. absurd (omega (arith, e, below)); done = λ n. (l, r) }

    left_good : Good s → Good q
    left_good g = go (eqb code 0) refl
      where
        go : (b : Bool) → eqb code 0 ≡ b → Good q
        go true e = r.good (eqb-true code 0 e)
        go false e =
            let c : code ≡ (rooted (viewed s) (read_tree 20 raw)).code = ap (λ (a : Answer). a.code) r.is in
            let f : Still (rooted (viewed s) (read_tree 20 raw)).code = rooted_five (viewed s) (read_tree 20 raw) (λ z. eqb-false code 0 e (c ∙ z)) in
            subst Good (sym (r.kept (omega (arith, c, f)))) g

    pub sets_root : Good s → is_some (viewed s).writing ≡ false → Does (set_root sha1 raw) s code q
    sets_root g e =
        record {
          refused = λ z. absurd (omega (arith, z, below));
          done = λ n. (g, r.is ∙ set_shut raw (viewed s) e, left_good g, r.behind);
          kept = r.kept;
        }

  pub refuses_open : Good s → is_some (viewed s).writing ≡ true → Does (set_root sha1 raw) s 9 s
  refuses_open g e =
      record {
        refused = λ z. absurd (omega (arith, z));
        done = λ n. (g, set_open raw (viewed s) e, g, record { plens = refl; paths = refl; tlens = refl; trees = refl; order = refl });
        kept = λ h. refl;
      }

pub refuses_damaged : (f : Model → Answer) (s : Lent) (b : Bool) → Decides (Good s) b → b ≡ false → Does f s 13 s
refuses_damaged f s b d e = record { refused = λ z. (deciding.refused d e, refl); done = λ n. absurd (n refl); kept = λ h. refl }
