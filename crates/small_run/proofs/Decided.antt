-- What `run` says decides its answer and every byte of the output: the place after the text is known, and so are the bytes before and behind it; a text that does not fit
-- leaves none but zeros. Assumes nothing.
use mathlib.Core.Path.{◌≡◌, refl, sym, ◌∙◌, ap}
use native.Mathlib.Omega.{arith}
use Rattle.std.specs.Prelude.{ℕ, Option, Some, None}
use Rattle.model.specs.Bytes.{Bytes}
use Rattle.small_run.specs.Puts.{Gives}

pub one_answer : (d s : Bytes) (r q : Option ℕ) (e f : Bytes) → Gives d s r e → Gives d s q f → (r ≡ q) × (e ≡ f)
one_answer d s (Some m) (Some n) e f x y = (ap Some (x.next ∙ sym y.next), x.done ∙ sym y.done)
one_answer d s (Some m) None e f x y = absurd (omega (arith, x.next, x.within, x.long, y.0))
one_answer d s None (Some n) e f x y = absurd (omega (arith, y.next, y.within, y.long, x.0))
one_answer d s None None e f x y = (refl, x.1 ∙ sym y.1)
