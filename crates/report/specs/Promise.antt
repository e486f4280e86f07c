-- What `print` and `no_page` promise: the bytes written, the length given back, and that no page is long.
use Rattle.std.specs.Prelude.{cond, List, Option, Some, None, ◌≡◌, ℕ, ◌+◌, ◌*◌, ◌≤◌, leb, length, take, replicate}
use Rattle.lists.specs.Put.{put}
use Rattle.limits.specs.Limits.{room_most}
use Rattle.run.specs.declared.Ran.{Ran}
use Rattle.report.specs.Page.{page_of, result_of}

-- ---- sizes

-- the most bytes in the line of a record: three numbers of at most five digits, a letter, three spaces and a
-- line feed
abbrev pub record_most : ℕ
record_most = 20

-- and in all the rest of a page: counts, seats and verdict, or the line of a refusal
abbrev pub rest_most : ℕ
rest_most = 1024

-- no page is longer
abbrev pub page_most : ℕ
page_most = record_most * room_most + rest_most

-- a buffer for any page, nothing written yet
unfoldable pub no_page : List ℕ
no_page = replicate page_most 0

-- ---- a text printed

-- into a lent buffer
pub record Prints (text page : List ℕ) (r : Option ℕ) (page' : List ℕ) : Type 0 where
  -- as much of the text as the buffer holds stands at its start, and no other byte is touched
  pub bytes : page' ≡ put page 0 (take (length page) text)
  -- the text's length, or nothing where the buffer is too short for it
  pub result : r ≡ cond (leb (length text) (length page)) (Some (length text)) None
  pub short : length text ≤ page_most

-- the same by one number, 0 where there is no length
pub record PrintsOrZero (text page : List ℕ) (r : ℕ) (page' : List ℕ) : Type 0 where
  pub bytes : page' ≡ put page 0 (take (length page) text)
  pub result : r ≡ cond (leb (length text) (length page)) (length text) 0
  pub short : length text ≤ page_most

-- the page of what a run gives back, for any such value and any trail
abbrev pub PrintPromise : Ran → (trail page : List ℕ) → Option ℕ → List ℕ → Type 0
PrintPromise ran trail page r page' = Prints (page_of (result_of ran trail)) page r page'
