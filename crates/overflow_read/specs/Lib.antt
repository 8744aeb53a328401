-- What the steps of joining and freeing require and answer.
pub mod Steps
