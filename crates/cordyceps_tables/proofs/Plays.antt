-- The run of commands goes on by one.
use Rattle.std.proofs.Common.{map, ◌≡◌, ◌<◌, length, get_or, drop, arith, List, [], ◌∷◌, ◌++◌, sym, ap, ◌+◌, ◌∙◌, append_assoc, length-append}
use Rattle.std.proofs.lemmas.List.{map_push}
use Rattle.cordyceps_commands.specs.declared.reply.Reply.{Reply}
use Rattle.cordyceps_base.proofs.Runs.{ran_none, ran_more}
use Rattle.cordyceps_commands.specs.Replies.{Line, lines_of}
use Rattle.cordyceps_tables.specs.Plays.{Plays, AnswersSome}

module _ {M C : Type 0} (step : M → C → M × List Line) where
  pub plays_nothing : (m : M) (cs : List C) → Plays step m cs [] cs m
  plays_nothing m cs = ran_none step cs m

  pub plays_more : (old mid new : M) (all rest : List C) (replies : List Reply) (c : C) (reply : Reply) →
      Plays step old all replies (c ∷ rest) mid → (new, lines_of reply) ≡ step mid c → Plays step old all (replies ++ reply ∷ []) rest new
  plays_more old mid new all rest replies c reply ran done =
      rw (map_push, ap (λ (p : M × List Line). p.0) done, ap (λ (p : M × List Line). p.1) done) (ran_more step all old mid (map lines_of replies) c rest ran)

-- one more command has its reply
pub answers_more : {C : Type 0} (all rest : List C) (replies : List Reply) (c : C) (reply : Reply) → AnswersSome all replies (c ∷ rest) → AnswersSome all (replies ++ reply ∷ []) rest
answers_more all rest replies c reply was = (
  was.0 ++ c ∷ [],
  append_assoc was.0 (c ∷ []) rest ∙ was.1,
  simp length-append (ap (λ n. n + 1) was.2),
)

pub first_waiting : {A : Type 0} (xs : List A) (x : A) → 0 < length xs → x ≡ get_or xs 0 x → xs ≡ x ∷ drop 1 xs
first_waiting [] x lt read = absurd (omega arith)
first_waiting (y ∷ ys) x lt read = ap (λ z. z ∷ ys) (sym read)
