-- Tokens that are taken piece by piece.
use Rattle.std.proofs.Common.{◌≡◌, List, [], ◌++◌, Result, Ok, Err, IsErr, sym, subst}
use Rattle.wf_sat_cnf.specs.Tokens.{IsTaking, Token}

-- of the tokens, all but the rest were taken: taking the rest takes all of them
pub record IsTaken {K T E : Type 0} (takes : List Token → K → T → K → T → Result (Unit {0}) E → Type 0) (is_open : T → Type 0) (start : K) (from : T) (now : K) (to : T) (all rest : List Token) : Type 0 where
  pub ready : is_open to
  pub ends : (new : K) (end : T) (result : Result (Unit {0}) E) → takes rest now to new end result → takes all start from new end result

module _ {K T E : Type 0} {takes : List Token → K → T → K → T → Result (Unit {0}) E → Type 0} {is_open : T → Type 0} (laws : IsTaking takes is_open) where
  -- nothing was taken
  pub none_taken : (now : K) (to : T) (all : List Token) → is_open to → IsTaken takes is_open now to now to all all
  none_taken now to all ready = record { ready = ready; ends = λ new end result taken. taken }

  -- the next piece was taken
  pub went_on : (start now new : K) (from to end : T) (all piece rest rest' : List Token) → IsTaken takes is_open start from now to all rest
      → takes piece now to new end (Ok tt) → rest ≡ piece ++ rest' → IsTaken takes is_open start from new end all rest'
  went_on start now new from to end all piece rest rest' before taken next = record {
    ready = laws.stays_open piece now new to end taken before.ready;
    ends = λ last on result more. before.ends last on result
        (subst (λ ts. takes ts now to last on result) (sym next) (laws.more piece rest' now new last to end on result taken more));
  }

  -- the next piece was not taken whole, and that is answered
  pub stopped : (start now new : K) (from to end : T) (all piece rest rest' : List Token) (fault : E) (result : Result (Unit {0}) E) → IsErr result
      → IsTaken takes is_open start from now to all rest → takes piece now to new end (Err fault) → rest ≡ piece ++ rest' → takes all start from new end result
  stopped start now new from to end all piece rest rest' fault result failed before taken next =
      before.ends new end result (subst (λ ts. takes ts now to new end result) (sym next) (laws.stopped piece rest' now new to end fault result taken failed))

  -- nothing is left
  pub all_taken : (start now : K) (from to : T) (all rest : List Token) → IsTaken takes is_open start from now to all rest → rest ≡ [] → takes all start from now to (Ok tt)
  all_taken start now from to all rest before none =
      before.ends now to (Ok tt) (subst (λ ts. takes ts now to now to (Ok tt)) (sym none) (laws.nothing now to))

  -- the last piece is taken, or not
  pub last_taken : (start now new : K) (from to end : T) (all piece rest : List Token) (result : Result (Unit {0}) E) → IsTaken takes is_open start from now to all rest
      → takes piece now to new end result → rest ≡ piece → takes all start from new end result
  last_taken start now new from to end all piece rest result before taken last =
      before.ends new end result (subst (λ ts. takes ts now to new end result) (sym last) taken)
