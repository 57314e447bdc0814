mod LastFile
mod Samples
