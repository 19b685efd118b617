-- What a call that answers its outcome leaves: a sound book, and lawful histories. Assumes nothing.
use Rattle.std.proofs.Common.{Ok, Err, Result, sym, subst}
use Rattle.rules.specs.declared.numbers.Refusal.{Refusal}
use Rattle.rules.specs.Model.{Model}
use Rattle.rules.specs.Outcome.{Done, Outcome}
use Rattle.rules.specs.Outcome.Outcome.{refused, done}
use Rattle.rules.specs.Sound.{Sound, Keeps}
use Rattle.laws.specs.Histories.{Call, longer}
use Rattle.laws.specs.Lawful.{StaysLawful}
use Rattle.laws.proofs.Every.{every_history}
use Rattle.book.specs.Answers.{Settles}

pub settled_sound : {A : Type 0} (out : Outcome) (m : Model) (r : Result A Refusal) (after : Model) (Fits : Done → A → Type 0) → Sound m → Keeps out → Settles out m r after Fits → Sound after
settled_sound (refused why) m (Err e) after Fits sound keeps settles = subst Sound (sym settles.1) sound
settled_sound (refused why) m (Ok a) after Fits sound keeps settles = absurd settles
settled_sound (done d) m (Err e) after Fits sound keeps settles = absurd settles
settled_sound (done d) m (Ok a) after Fits sound keeps settles = subst Sound (sym settles.0) keeps

-- cited by name in an answer of each call: where it was named on the functions, the check did not find it
pub stays_lawful : (m : Model) (k : Call) → StaysLawful m k
stays_lawful m k h reached = every_history (longer k h)
