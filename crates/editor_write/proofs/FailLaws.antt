-- Laws of a failure: the start tree is the only taken one that is left, and it is cached again. Assumes nothing.
use Prim.Native.Nat.{ℕ, zero, suc}
use mathlib.Core.Path.{◌≡◌, refl, sym, ap, ap₂, ◌∙◌, subst}
use mathlib.Core.Bool.{true}
use mathlib.Core.List.{List}
use mathlib.Core.Option.{none}
use native.Mathlib.Omega.{arith}
use lib.ListN.{take}
use Rattle.model.specs.Map.{put}
use Rattle.model.specs.Calls.{Answer}
use Rattle.model.specs.Editor.{Format, Held, at, Cache}
use Rattle.model.specs.Editor.{Editor as Model}
use Rattle.model.specs.Formats.{sha1}
use Rattle.model.specs.Valid.{valid}
use Rattle.model.specs.Write.{bottom, failed}
use Rattle.model.proofs.Theorems.{fail_valid}
use Rattle.store_slots.specs.View.{write_of, editor_of, held_in, held_at, cached_of, aside_of, Laid, Ordered, Holds}
use Rattle.store_slots.specs.declared.Record.{Record}
use Rattle.store_taken.specs.Taken.{SameTree}
use Rattle.store_check.proofs.StoredLaws.{sha1_width, sha1_room}
use Rattle.editor.specs.Lent.{Lent, Good, viewed, Behind, Does}
use Rattle.editor_write.specs.Steps.{exactly, HoldsExactly, Made}
use Rattle.editor_write.proofs.BackLaws.{refuses}

-- the layout, the write's rules and a valid editor make a store that holds
holds_of : (F : Format) (w : ℕ) → F.width ≡ w → (q : Record) (plens paths tlens trees order : List ℕ) (E : Model) → Laid w q plens paths tlens trees → Ordered q order → editor_of w q plens paths tlens trees order ≡ E → valid F E ≡ true → Holds F q plens paths tlens trees order
holds_of F w f q plens paths tlens trees order E L o e v = record {
  laid = subst (λ (x : ℕ). Laid x q plens paths tlens trees) (sym f) L;
  ordered = o;
  valid = ap (λ (x : ℕ). valid F (editor_of x q plens paths tlens trees order)) f ∙ ap (valid F) e ∙ v;
}

pub laid_20 : (s : Lent) → HoldsExactly s → Laid 20 s.ed s.plens s.paths s.tlens s.trees
laid_20 s h = subst (λ (w : ℕ). Laid w s.ed s.plens s.paths s.tlens s.trees) sha1_width h.laid

pub valid_20 : (s : Lent) → HoldsExactly s → valid sha1 (exactly s) ≡ true
valid_20 s h = ap (λ (w : ℕ). valid sha1 (editor_of w s.ed s.plens s.paths s.tlens s.trees s.order)) (sym sha1_width) ∙ h.valid

-- what the model makes of a valid editor is valid
pub made : (f : Model → Answer) → ((E : Model) → valid sha1 E ≡ true → valid sha1 (f E).editor ≡ true) → (s q : Lent) → HoldsExactly s →
    Laid 20 q.ed q.plens q.paths q.tlens q.trees → Ordered q.ed q.order → record { code = 0; editor = exactly q } ≡ f (exactly s) → Made f s q
made f v s q h l o e =
    record {
      holds = holds_of sha1 20 sha1_width q.ed q.plens q.paths q.tlens q.trees q.order (f (exactly s)).editor l o (ap (λ (a : Answer). a.editor) e) (v (exactly s) (valid_20 s h));
      is = e;
    }

failed_open : (n : ℕ) (c : Cache) (h : Held) (us ss : List Held) → (n ≡ 0 → ⊥) → record { code = 0; editor = record { cached = put at (bottom h us) c; writing = none } } ≡ failed (record { cached = c; writing = write_of n h us ss })
unfolding failed
failed_open zero c h us ss e = absurd (e refl)
failed_open (suc n) c h us ss e = refl

failed_shut : (n : ℕ) (c : Cache) (h : Held) (us ss : List Held) → n ≡ 0 → record { code = 10; editor = record { cached = c; writing = write_of n h us ss } } ≡ failed (record { cached = c; writing = write_of n h us ss })
unfolding failed
failed_shut zero c h us ss e = refl
failed_shut (suc n) c h us ss e = absurd (omega (arith, e))

module _ (s q : Lent) (one : Record) (start : ℕ) (h : HoldsExactly s) (n : s.ed.«open» ≡ 0 → ⊥) where
  pub fails :
      held_at 20 s.plens s.paths s.tlens s.trees start ≡ bottom (held_at 20 s.plens s.paths s.tlens s.trees s.ed.asked) (aside_of 20 s.ed s.plens s.paths s.tlens s.trees s.order) →
      cached_of 20 one q.plens q.paths q.tlens q.trees ≡ cached_of 20 s.ed s.plens s.paths s.tlens s.trees →
      SameTree s.plens s.paths s.tlens s.trees q.plens q.paths q.tlens q.trees start →
      Laid 20 q.ed q.plens q.paths q.tlens q.trees → Ordered q.ed q.order →
      exactly q ≡ record { cached = put at (held_at 20 q.plens q.paths q.tlens q.trees start) (cached_of 20 one q.plens q.paths q.tlens q.trees); writing = none } →
      Made failed s q
  fails b c t l o e =
      made failed (λ E v. fail_valid sha1 E v) s q h l o
      (ap (λ (E : Model). record { code = 0; editor = E }) e
      ∙ ap₂ (λ (x : Held) (y : Cache). record { code = 0; editor = record { cached = put at x y; writing = none } }) (ap₂ (held_in 20) t.path t.run ∙ b) c
      ∙ failed_open s.ed.«open» _ _ _ _ n)

pub fail_refused : (s : Lent) → Good s → s.ed.«open» ≡ 0 → Does failed s 10 s
fail_refused s g e = refuses failed s 10 g (λ z. omega (arith, z)) (failed_shut s.ed.«open» _ _ _ _ e)

-- a call that was made in the fronts
pub does : (f : Model → Answer) (s q : Lent) → Good s → Good q → Behind s q → record { code = 0; editor = viewed q } ≡ f (viewed s) → Does f s 0 q
does f s q g k b e = record { refused = λ z. absurd (omega (arith, z)); done = λ n. (g, e, k, b); kept = λ z. absurd (omega (arith, z)) }

pub front_holds : (s : Lent) → Good s → Holds sha1 s.ed (take 64 s.plens) (take 8192 s.paths) (take 64 s.tlens) (take 38912 s.trees) (take 64 s.order)
front_holds s g = subst (λ (k : ℕ). Holds sha1 s.ed (take 64 s.plens) (take 8192 s.paths) (take 64 s.tlens) (take k s.trees) (take 64 s.order)) sha1_room g.holds
