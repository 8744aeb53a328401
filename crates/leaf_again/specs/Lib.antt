-- What next base and cutoff removal answer.
pub mod Again
