-- What stands for its history behind the lock of a desk, and what a pass's seat has of it.
use Rattle.std.specs.Prelude.{◌≡◌, ℕ, ◌<◌, List, [], length, Option, Some, slice_get}
use Rattle.atomic_table.specs.Seated.{TableId}
use Rattle.ug_book.specs.declared.opening.Opening.{Opening}
use Rattle.ug_turn.specs.declared.seat.Seat.{Seat}
use Rattle.ug_turn.specs.declared.view.View.{View}
use Rattle.ug_turn.specs.Seats.{IsAtRest, IsOut, lock_of, view_of}
use Rattle.ug_turn.specs.Steps as steps
use Rattle.ug_desk.specs.declared.locked_book.LockedBook.{LockedBook}
use Rattle.ug_desk.specs.Histories.{Entry}
use Rattle.ug_desk.specs.Entries.{IsLocked, IsReplayed, LockedState}
use Rattle.ug_desk.specs.Words.{word_of}

-- what lies on it
abbrev pub on : LockedBook → LockedState
on s = s.locked.value

abbrev pub opening_of : LockedBook → Opening
opening_of s = (on s).opening

-- the history leads to it
abbrev pub Leads : LockedBook → List Entry → Type 0
Leads s history = IsReplayed (on s) history

abbrev pub pass_by : Entry → ℕ
pass_by e = e.pass

-- the word of its incumbent's cutoff
abbrev pub word_on : LockedBook → ℕ
word_on s = word_of (on s).now.book

-- the seats and views of a desk's lock
abbrev pub SeatState : Type 0
SeatState = Seat LockedBook Opening Entry

abbrev pub ViewState : Type 0
ViewState = View Opening Entry

-- what a seat knows of what it took out, and what it may put home
abbrev pub HasTakenOut : ViewState → LockedBook → ViewState → Type 0
HasTakenOut old locked_book new = steps.HasTaken opening_of Leads pass_by word_on old locked_book new

abbrev pub MayPut : ViewState → LockedBook → Option Entry → Type 0
MayPut old locked_book entry = steps.MayPut opening_of Leads pass_by word_on old locked_book entry

abbrev pub HasPut : ViewState → LockedBook → Option Entry → ViewState → Type 0
HasPut old locked_book entry new = steps.HasPut pass_by word_on old locked_book entry new

-- the locked book is out with a seat of this lock, and the rank is one of its book's
pub record IsOutFor (lock : TableId) (rank : ℕ) (locked_book : LockedBook) (s : SeatState) : Type 0 where
  pub lock_is : lock_of s ≡ lock
  pub out : IsOut s
  pub locked : IsLocked (on locked_book)
  pub here : rank < length (on locked_book).now.book.ranks

-- a seat of this lock that has seen nothing, for the pass of this number
pub record IsFreshSeat (lock : TableId) (o : Opening) (r : ℕ) (s : SeatState) : Type 0 where
  pub lock_is : lock_of s ≡ lock
  pub rest : IsAtRest s
  pub own : (view_of s).pass ≡ r
  pub opened : (view_of s).opening ≡ Some o
  pub seen : (view_of s).seen ≡ []
  pub mine : (view_of s).mine ≡ []

-- one for each pass, in their order
abbrev pub AreFreshSeats : TableId → Opening → List SeatState → Type 0
AreFreshSeats lock o seats =
    (r : ℕ) (s : SeatState) → slice_get seats r ≡ Some s → IsFreshSeat lock o r s
